use Rattle.std.proofs.Common.{◌≡◌, ◌-◌, ◌++◌, ℕ, suc, List, [], ◌∷◌, length, drop, sym, ap, subst, ◌∙◌, arith}
use Rattle.std.proofs.lemmas.List.{length_push, length-drop, length-map, drop_all}
use Rattle.glsl_preproc.specs.Views.{plain_piece, plain_pieces}
use Rattle.glsl_preproc.specs.declared.pieces.Piece.{Piece}
use Rattle.glsl_preproc.specs.LoneClosers.{lone_closers, AreCounts}
use Rattle.glsl_preproc.proofs.LoneClosers.{at_end, none_at_end, one_more, counted, drop_at}
use Rattle.glsl_preproc.proofs.brackets.counts_of.Goals as goal

pub loop-at-init : goal.loop-at-init
loop-at-init c =
    let list = c.args.list.now in
    let none = drop_all (length list) list (omega arith) in
    let pushed = c.in_ok-push.ensures.items ∙ ap (λ l. l ++ 0 ∷ []) c.new-counts.ensures.items in
    let size = ap length pushed in
    record {
      counts = at_end c.push.new.self.items (drop (length list) list) pushed none;
      count = none_at_end (drop (length list) list) none;
      size = omega arith;
      small = omega arith;
    }

pub loop-at-preserved : goal.loop-at-preserved
loop-at-preserved c =
    let list = c.args.list.now in
    let x = c.index-list-before.result in
    let at = c.loop-at.at in
    let behind = plain_pieces (drop at list) in
    let next : suc (c.loop-at.at - 1) ≡ c.loop-at.at = omega arith in
    let step = drop_at list (c.loop-at.at - 1) x (omega arith) c.index-list-before.is ∙ ap (λ k. x ∷ drop k list) next in
    let count = c.count_with-count.ensures.count ∙ counted (plain_piece x) behind c.loop-at.count c.loop-at.invariant.count in
    let dropped = length-drop at list in
    let same = length-map (drop at list) plain_piece in
    let pushed = c.in_ok-push-2.ensures.items in
    let longer = ap length pushed ∙ length_push c.loop-at.counts.items c.count_with-count.result in
    let P : List ℕ → Type 0 = λ l. AreCounts l (plain_piece x ∷ behind) in
    let Q : List Piece → Type 0 = λ l. AreCounts c.push-in-loop-at.new.self.items (plain_pieces l) in
    record {
      counts = subst Q (sym step) (subst P (sym pushed) (one_more c.loop-at.counts.items c.count_with-count.result (plain_piece x) behind (omega arith) c.loop-at.invariant.counts count));
      count = count ∙ ap (λ l. lone_closers (plain_pieces l)) (sym step);
      size = omega arith;
      small = omega arith;
    }
