use Rattle.std.proofs.Common.{◌≡◌, ◌∙◌, ℕ, List, map, sym, subst, ap, arith, length}
use Rattle.std.proofs.lemmas.List.{with_items_is, length-map}
use Rattle.std.proofs.lemmas.Result.{on_ok_weaker}
use Rattle.std.specs.Vec.{with_items}
use Rattle.book_model.specs.Entries.{runs_of}
use Rattle.book_parts.specs.Line.{LineState, AreOfLine}
use Rattle.book_parts.specs.Works.{slave_of, AreOfSlaves, OnlyRooms, HasCounted}
use Rattle.book_parts.proofs.RoomLaws.{of-slaves, only-slaves, only-stands, has-counted}
use Rattle.book_parts.proofs.line.LineWork.reserve.Goals as goal

pub words_named-requires : goal.words_named-requires
words_named-requires c =
    let items = c.self.inside.works.items in
    let runs = runs_of c.args.entries.now in
    let few : length (map slave_of items) ≡ c.len.result = omega (arith, length-map items slave_of, c.len.ensures, c.self.inside.works.ok.0) in
    subst (λ (n : ℕ). AreOfSlaves n runs) few (of-slaves (map slave_of items) runs (subst (λ (l : LineState). AreOfLine l.slaves runs) (sym c.self.view_is) c.requires.inside))

pub returns-clause-kept : goal.returns-clause-kept
returns-clause-kept c =
    let items = c.self.inside.works.items in
    let new = c.reserve_all.new.works in
    let kept : OnlyRooms items new = rw c.deref_mut.ensures.value at c.reserve_all.ensures.kept in
    let back : (with_items c.self.inside.works new).items ≡ new = with_items_is c.self.inside.works new (omega (arith, kept.same, c.self.inside.works.ok.0)) in
    record {
      slaves = ap (map slave_of) back ∙ only-slaves items new kept ∙ ap (λ (l : LineState). l.slaves) c.self.view_is;
      older = ap (λ (l : LineState). l.older) c.self.view_is;
      newer = ap (λ (l : LineState). l.newer) c.self.view_is;
    }

pub returns-clause-room : goal.returns-clause-room
returns-clause-room c =
    let items = c.self.inside.works.items in
    let older = c.self.inside.older in
    let newer = c.self.inside.newer in
    let new = c.reserve_all.new.works in
    let counts = c.in_ok-counts.counts.items in
    let runs = runs_of c.args.entries.now in
    let kept : OnlyRooms items new = rw c.deref_mut.ensures.value at c.reserve_all.ensures.kept in
    let back : (with_items c.self.inside.works new).items ≡ new = with_items_is c.self.inside.works new (omega (arith, kept.same, c.self.inside.works.ok.0)) in
    let few : c.len.result ≡ length new = omega (arith, kept.same, c.len.ensures, c.self.inside.works.ok.0) in
    let long : length c.deref_mut.result.now ≡ c.len.result = omega (arith, c.deref_mut.ensures.len, c.len.ensures) in
    on_ok_weaker c.reserve_all.result
    (λ has. rw back (has-counted new older newer counts runs c.len.result few c.in_ok-counts.ensures.words (subst (λ (l : List ℕ). HasCounted new l c.len.result) c.deref.ensures.value (subst (HasCounted new c.deref.result.now) long has))))
    c.reserve_all.ensures.room

pub invariant_of-self : goal.invariant_of-self
invariant_of-self c =
    let items = c.self.inside.works.items in
    let new = c.reserve_all.new.works in
    let kept : OnlyRooms items new = rw c.deref_mut.ensures.value at c.reserve_all.ensures.kept in
    let back : (with_items c.self.inside.works new).items ≡ new = with_items_is c.self.inside.works new (omega (arith, kept.same, c.self.inside.works.ok.0)) in
    rw back (record { each = only-stands items new c.self.inside.older c.self.inside.newer kept c.self.invariant.each; order = c.self.invariant.order })
