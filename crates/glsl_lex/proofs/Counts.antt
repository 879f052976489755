-- How many bytes a text begins with.
use Rattle.std.proofs.lemmas.List.Folds.{length-prefix_len}
use Rattle.std.proofs.lemmas.List.Sums.{prefix_len-le-length}

pub ruleset counts = (length-prefix_len, prefix_len-le-length)
