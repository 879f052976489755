-- What the code finds of arguments that it takes one by one.
use Rattle.std.specs.Prelude.{Bool, ◌&&◌, ◌||◌}
use Rattle.appendix_a.specs.declared.findings.Arguments.{Arguments}
use Rattle.appendix_a.specs.declared.findings.Finding.{Finding}
use Rattle.appendix_a.specs.Expressions.{is_index}
use Rattle.appendix_a.specs.Site.{Site}

-- some arguments and one more behind them
abbrev pub then_argument : Site → Arguments → Bool → Finding → Arguments
then_argument site found gives_back f = record {
  made = found.made && f.made;
  index_out = found.index_out || (gives_back && is_index site f);
}
