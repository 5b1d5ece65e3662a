use Rattle.std.proofs.Common.{◌≡◌, ◌+◌, ◌-◌, ℕ, sym, subst, arith, map, take, drop, set}
use Rattle.book_model.specs.declared.due.Naming.{Naming}
use Rattle.book_model.specs.Queue.{no_naming, naming_at, naming_down}
use Rattle.book_model.proofs.DownLaws.{down-more}
use Rattle.book_model.proofs.down.namings_down.Goals as goal

pub loop-place-preserved : goal.loop-place-preserved
loop-place-preserved c =
    let old = c.args.namings.now in
    let now = c.loop-place.namings in
    let i = c.loop-place.place in
    let n : Naming = naming_at now (c.args.count + i) in
    let d = down-more (naming_down c.args.count) old now c.args.count i no_naming (omega arith) (omega arith) c.loop-place.invariant.done c.loop-place.invariant.rest in
    let is : c.lowered.result ≡ n.before - c.args.count = c.lowered.ensures in
    let all = subst (λ (b : ℕ). (take (i + 1) (set now i (record { word = n.word; value = n.value; before = b; entry = n.entry })) ≡ map (naming_down c.args.count) (take (i + 1) (drop c.args.count old)))
    × (drop (c.args.count + (i + 1)) (set now i (record { word = n.word; value = n.value; before = b; entry = n.entry })) ≡ drop (c.args.count + (i + 1)) old)) (sym is) d in
    record { done = all.0; rest = all.1 }
