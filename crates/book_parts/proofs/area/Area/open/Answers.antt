use Rattle.std.proofs.Common.{◌≡◌, ◌≢◌, ◌∙◌, ℕ, eqb, refl, ap}
use Rattle.std.proofs.lemmas.List.{take_all}
use Rattle.std.proofs.lemmas.Bool.{eq-eqb, ne_eqb}
use Rattle.jrn_format.specs.Halves.{Halves}
use Rattle.book_parts.specs.declared.spot.Spot.{Spot}
use Rattle.book_parts.specs.declared.spot.Spot.TheVariants.{InOlder, InNewer}
use Rattle.book_parts.specs.Room.{Room}
use Rattle.book_parts.specs.Spot.{as_place}
use Rattle.book_parts.proofs.RoomOpenLaws.{separate, place_by, stands_at, payloads-fit, payload-at, all-bytes, separate-more, one-more-fits, separate-is}
use Rattle.book_parts.proofs.area.Area.open.Goals as goal
use Rattle.book_parts.proofs.area.Area.open.Goals.{then-batch-at, else-batch-at}

older : (spot : Spot) (half at : ℕ) → spot ≡ InOlder → half ≡ at → as_place spot ≡ place_by (eqb half at)
older spot half at is same = rw (is, eq-eqb half at same) refl

newer : (spot : Spot) (half at : ℕ) → spot ≡ InNewer → half ≢ at → as_place spot ≡ place_by (eqb half at)
newer spot half at is other = rw (is, ne_eqb half at other) refl

pub put-requires-clause-fits : goal.put-requires-clause-fits
put-requires-clause-fits c =
    let at = c.older_of-at.result.0 in
    let batch = c.batch-item.result in
    let place : as_place c.if-batch-at.spot ≡ place_by (stands_at at batch) = elim c.if-batch-at.branch [
      | then-batch-at w ↦ older c.if-batch-at.spot batch.half at w.spot-is w.if-batch-at.true
      | else-batch-at w ↦ newer c.if-batch-at.spot batch.half at w.spot-is w.if-batch-at.false
    ] in
    rw (place, c.loop-batch.invariant)
    (one-more-fits c.args.form c.args.capacity at c.older_of-at.result.1 c.args.batches.now c.loop-batch.batch-index batch (all-bytes c.args.form c.args.capacity c.args.batches.now c.requires) c.loop-batch-test.true c.batch-item.is)

pub put-requires-clause-payload : goal.put-requires-clause-payload
put-requires-clause-payload c =
    payload-at c.args.batches.now c.loop-batch.batch-index c.batch-item.result (payloads-fit c.args.form c.args.capacity c.args.batches.now c.requires) c.loop-batch-test.true c.batch-item.is

pub loop-batch-preserved : goal.loop-batch-preserved
loop-batch-preserved c =
    let at = c.older_of-at.result.0 in
    let batch = c.batch-item.result in
    let place : as_place c.if-batch-at.spot ≡ place_by (stands_at at batch) = elim c.if-batch-at.branch [
      | then-batch-at w ↦ older c.if-batch-at.spot batch.half at w.spot-is w.if-batch-at.true
      | else-batch-at w ↦ newer c.if-batch-at.spot batch.half at w.spot-is w.if-batch-at.false
    ] in
    c.put.ensures
    ∙ rw (place, c.loop-batch.invariant)
    (ap (λ (h : Halves). let r : Room = record { form = c.args.form; capacity = c.args.capacity; halves = h } in r)
    (separate-more c.args.form c.args.capacity at c.older_of-at.result.1 c.args.batches.now c.loop-batch.batch-index batch c.loop-batch-test.true c.batch-item.is))

pub returns : goal.returns
returns c =
    let all = take_all c.loop-batch.batch-index c.args.batches.now c.loop-batch-test.false in
    c.loop-batch.invariant
    ∙ ap (separate c.args.form c.args.capacity c.older_of-at.result.0 c.older_of-at.result.1) all
    ∙ rw (c.older_of-at.ensures.half, c.older_of-at.ensures.generation) (separate-is c.args.form c.args.capacity c.args.batches.now)
