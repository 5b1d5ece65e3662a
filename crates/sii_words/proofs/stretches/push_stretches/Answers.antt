use Rattle.std.proofs.Common.{◌≡◌, ◌≢◌, ◌++◌, [], ◌∷◌, List, ℕ, take, drop, get_or, arith, length-drop, drop-drop, get_or-drop, ap, ◌∙◌, add-zero}
use Rattle.std.proofs.Math.Nat.{add-sub_cancel_left}
use Rattle.std.proofs.lemmas.List.{take_rest}
use Rattle.sii_words.specs.Run.{stretches}
use Rattle.sii_words.proofs.StretchLaws.{next_stretch}
use Rattle.sii_words.proofs.stretches.push_stretches.Goals as goal

pub loop-at-preserved : goal.loop-at-preserved
loop-at-preserved c =
    let old : List ℕ = c.args.old.now in
    let new : List ℕ = c.args.new.now in
    let at : ℕ = c.loop-at.at in
    let count : ℕ = c.differing-count.result in
    let old_rest = take_rest old at in
    let new_rest = take_rest new at in
    let most = rw old_rest at c.differing-count.ensures.size in
    let differ = rw (old_rest, new_rest) at c.differing-count.ensures.differ in
    let stays = rw (old_rest, new_rest) at c.differing-count.ensures.end in
    let words : c.in_ok-words.words.items ≡ take count (drop at new) =
    c.in_ok-words.ensures.items_if_clones_equal (λ x y same. same) ∙ ap (λ (n : ℕ). take n (drop at new)) (add-sub_cancel_left at count) in
    let value : c.from_vec.result ≡ take count (drop at new) = c.from_vec.ensures ∙ words in
    let made : c.push.new.self.items ≡ c.loop-at.runs.items ++ record { slave = c.args.slave; first = at; words = take count (drop at new) } ∷ [] =
    c.in_ok-push.ensures.items ∙ ap (λ (list : List ℕ). c.loop-at.runs.items ++ record { slave = c.args.slave; first = at; words = list } ∷ []) value in
    let first : get_or (drop at old) 0 0 ≢ get_or (drop at new) 0 0 = rw (get_or-drop at old 0 0, get_or-drop at new 0 0, add-zero at) c.if-old-at.false in
    let next = next_stretch c.loop-at.runs.items (c.args.runs.now.items ++ stretches c.args.slave 0 old new) c.args.slave at count (drop at old) (drop at new)
    (omega (arith, length-drop at old, length-drop at new, c.requires.same)) (omega (arith, length-drop at old)) first most differ stays c.loop-at.invariant.runs in
    record {
      within = omega (arith, most, length-drop at old);
      runs = rw (made, ← drop-drop count at old, ← drop-drop count at new) next;
    }
