-- One more texel is read, premultiplied and packed; at the end all are.
use Rattle.std.proofs.Common.{◌≡◌, ◌≤◌, ◌<◌, ◌+◌, ◌-◌, ◌∙◌, true, [], length, take, drop, ap, sym, subst, arith, length-drop}
use Rattle.std.proofs.lemmas.List.{drop-drop, drop_all, take_all}
use Rattle.texel_rules.specs.Layouts.{texel_bytes}
use Rattle.texel_rules.specs.Texels.{converted, packed, premultiplied, texel_of}
use Rattle.texel_rules.specs.UploadedTexels.{IsWhole}
use Rattle.texel_rules.proofs.Conversion.{finished, packed_length, turn, whole-first, whole-rest}
use Rattle.texel_rules.proofs.rows.premultiply_row.Goals as goal

pub loop-at-preserved : goal.loop-at-preserved
loop-at-preserved c =
    let size : c.texel_bytes-size.result ≡ texel_bytes c.args.layout = c.texel_bytes-size.ensures in
    let left : 0 < length (drop c.loop-at.at c.args.from.now) = rw length-drop (omega arith) in
    let long : texel_bytes c.args.layout ≤ length (drop c.loop-at.at c.args.from.now) = whole-first c.args.layout _ c.loop-at.invariant.whole left in
    let next : drop (texel_bytes c.args.layout) (drop c.loop-at.at c.args.from.now) ≡ drop (c.loop-at.at + c.texel_bytes-size.result) c.args.from.now =
    drop-drop (texel_bytes c.args.layout) c.loop-at.at c.args.from.now ∙ ap (λ n. drop (c.loop-at.at + n) c.args.from.now) (sym size) in
    let fits : texel_bytes c.args.layout ≤ length c.args.from.now - c.loop-at.at = omega (arith, length-drop c.loop-at.at c.args.from.now, long) in
    let wide : c.loop-at.at + c.texel_bytes-size.result - c.loop-at.at ≡ c.texel_bytes-size.result = omega arith in
    let piece : c.pack_texel.new.into ≡ converted c.args.layout true (take c.texel_bytes-size.result (drop c.loop-at.at c.args.from.now)) =
    c.pack_texel.ensures
    ∙ ap (packed c.args.layout) (c.premultiply-texel.ensures.value
    ∙ ap (premultiplied c.args.layout) (c.read_texel.ensures.value ∙ ap (λ n. texel_of c.args.layout (take n (drop c.loop-at.at c.args.from.now))) wide)) in
    record {
      within = omega arith;
      whole = subst (λ row. IsWhole c.args.layout row) next (whole-rest c.args.layout _ c.loop-at.invariant.whole long);
      done = turn c.args.layout true c.args.from.now c.loop-at.into c.pack_texel.new.into c.loop-at.at c.texel_bytes-size.result size (omega arith) (omega arith) piece c.loop-at.invariant.done
          (ap length c.pack_texel.ensures ∙ packed_length c.args.layout c.premultiply-texel.result ∙ sym size);
    }

pub returns : goal.returns
returns c =
    let none : drop c.loop-at.at c.args.from.now ≡ [] = drop_all c.loop-at.at c.args.from.now c.loop-at-test.false in
    let whole : take c.loop-at.at c.loop-at.into ≡ c.loop-at.into = take_all c.loop-at.at c.loop-at.into (omega arith) in
    finished c.args.layout true _ _ _ _ none whole c.loop-at.invariant.done
