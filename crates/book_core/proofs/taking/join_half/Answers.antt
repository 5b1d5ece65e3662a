use Rattle.std.proofs.Common.{◌≡◌, ◌<◌, ◌∙◌, List, ◌++◌, length, get_or, take, map, refl, sym, ap, subst, arith}
use Rattle.jrn_format.specs.declared.journal.Entry.{Entry}
use Rattle.jrn_format.specs.declared.journal.Batch.{Batch}
use Rattle.jrn_format.specs.Batch.{IsWithin}
use Rattle.book_model.specs.Entries.{runs_of, entries_of}
use Rattle.book_parts.specs.Line.{AreOfLine, NeverFall}
use Rattle.book_core.specs.Stands.{as_found, cell_counts}
use Rattle.book_core.proofs.FoundLaws.{all-at, joined-none, still-found, still-inside, found-order, ahead-batch, ahead-more}
use Rattle.book_core.proofs.taking.join_half.Goals as goal

pub loop-at-init : goal.loop-at-init
loop-at-init c = record { same = refl; rest = refl; joined = joined-none c.args.spot c.args.work.now }

pub join-requires-clause-inside : goal.join-requires-clause-inside
join-requires-clause-inside c =
    let old = c.args.work.now in
    let now = c.loop-at.work in
    let batches = c.args.batches.now in
    let at = c.loop-at.at in
    let d = c.index-batches-at.result in
    let lt : at < length batches = omega (arith, c.loop-at.invariant.same) in
    let is : c.deref.result.now ≡ map as_found (get_or batches at d).entries =
    c.deref.ensures.value ∙ c.take_entries-entries.ensures ∙ ap (λ (b : Batch). map as_found b.entries) (ahead-batch c.args.spot batches c.loop-at.batches old now at d c.loop-at.invariant lt) in
    subst (λ (l : List Entry). AreOfLine now.slaves (runs_of l)) (sym is)
    (still-inside c.args.spot (map as_found (entries_of (take at batches))) (get_or batches at d).entries old now c.loop-at.invariant.joined (all-at (IsWithin (cell_counts old.slaves)) batches at d c.requires.within lt))

pub join-requires-clause-order : goal.join-requires-clause-order
join-requires-clause-order c =
    let old = c.args.work.now in
    let now = c.loop-at.work in
    let batches = c.args.batches.now in
    let at = c.loop-at.at in
    let d = c.index-batches-at.result in
    let lt : at < length batches = omega (arith, c.loop-at.invariant.same) in
    let is : c.deref.result.now ≡ map as_found (get_or batches at d).entries =
    c.deref.ensures.value ∙ c.take_entries-entries.ensures ∙ ap (λ (b : Batch). map as_found b.entries) (ahead-batch c.args.spot batches c.loop-at.batches old now at d c.loop-at.invariant lt) in
    subst (λ (l : List Entry). NeverFall ((now.older ++ now.newer) ++ l)) (sym is)
    (found-order now (get_or batches at d).entries (still-found c.args.spot (entries_of (take at batches)) old now c.requires.found c.loop-at.invariant.joined))

pub loop-at-preserved : goal.loop-at-preserved
loop-at-preserved c =
    let old = c.args.work.now in
    let now = c.loop-at.work in
    let batches = c.args.batches.now in
    let at = c.loop-at.at in
    let d = c.index-batches-at.result in
    let lt : at < length batches = omega (arith, c.loop-at.invariant.same) in
    let is : c.deref.result.now ≡ map as_found (get_or batches at d).entries =
    c.deref.ensures.value ∙ c.take_entries-entries.ensures ∙ ap (λ (b : Batch). map as_found b.entries) (ahead-batch c.args.spot batches c.loop-at.batches old now at d c.loop-at.invariant lt) in
    ahead-more c.args.spot batches c.loop-at.batches old now c.join.new.work at d c.take_entries-entries.new.batch c.deref.result.now c.loop-at.invariant lt is c.in_ok-join.ensures
