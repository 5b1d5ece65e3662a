use Rattle.std.proofs.Common.{◌≡◌, ◌∙◌, ℕ, List, length, drop, map, sym, ap, subst}
use Rattle.std.specs.List.{AllByRecursion}
use Rattle.std.proofs.lemmas.Result.{on_ok_weaker}
use Rattle.jrn_format.specs.declared.journal.Batch.{Batch}
use Rattle.jrn_format.specs.Batch.{IsWithin}
use Rattle.jrn_format.specs.Live.{halves_in}
use Rattle.book_model.specs.Entries.{entries_of}
use Rattle.book_parts.specs.declared.spot.Spot.TheVariants.{InOlder}
use Rattle.book_core.specs.Stands.{as_found, cell_counts}
use Rattle.book_core.proofs.FoundLaws.{all-drop, older-first, newer-after, none-found, counts-stay, still-found, taken-up}
use Rattle.book_core.proofs.taking.take_up.Goals as goal

pub join_half-requires-2-clause-within : goal.join_half-requires-2-clause-within
join_half-requires-2-clause-within c =
    let batches = c.args.batches.items in
    let sizes = cell_counts c.args.work.now.slaves in
    let same = counts-stay InOlder (map as_found (entries_of c.deref_mut.result.now)) c.args.work.now c.join_half.new.work c.in_ok-join_half.ensures in
    let ys_is : c.deref_mut-2.result.now ≡ drop c.older_count-count.result batches = c.deref_mut-2.ensures.value ∙ c.in_ok-newer.ensures.tail in
    subst (AllByRecursion (IsWithin (cell_counts c.join_half.new.work.slaves))) (sym ys_is)
    (subst (λ (s : List ℕ). AllByRecursion (IsWithin s) (drop c.older_count-count.result batches)) (sym same) (all-drop (IsWithin sizes) c.older_count-count.result batches c.requires.within))

pub join_half-requires-2-clause-found : goal.join_half-requires-2-clause-found
join_half-requires-2-clause-found c =
    still-found InOlder (entries_of c.deref_mut.result.now) c.args.work.now c.join_half.new.work (none-found c.args.work.now c.requires.older c.requires.newer) c.in_ok-join_half.ensures

pub returns : goal.returns
returns c =
    let batches = c.args.batches.items in
    let all = c.requires.halves in
    let count : c.older_count-count.result ≡ length (halves_in batches).older = c.older_count-count.ensures ∙ ap (λ (l : List Batch). length (halves_in l).older) c.deref.ensures.value in
    let xs_is = c.deref_mut.ensures.value ∙ c.in_ok-newer.ensures.items ∙ older-first batches c.older_count-count.result all count in
    let ys_is = c.deref_mut-2.ensures.value ∙ c.in_ok-newer.ensures.tail ∙ newer-after batches c.older_count-count.result all count in
    on_ok_weaker c.join_half-2.result
    (λ two. taken-up batches c.deref_mut.result.now c.deref_mut-2.result.now c.args.work.now c.join_half.new.work c.join_half-2.new.work xs_is ys_is all c.in_ok-join_half.ensures two)
    c.join_half-2.ensures
