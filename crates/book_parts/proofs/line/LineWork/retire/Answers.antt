use Rattle.std.proofs.Common.{◌≡◌, ◌∙◌, true, List, [], map, sym, subst, ap, arith}
use Rattle.std.proofs.lemmas.List.{with_items_is}
use Rattle.std.specs.Vec.{with_items}
use Rattle.jrn_format.specs.declared.journal.Entry.{Entry}
use Rattle.book_parts.specs.declared.work.SlaveWork.{SlaveWork}
use Rattle.book_parts.specs.Line.{LineState, is_settled, retired}
use Rattle.book_parts.specs.Works.{line_of, work_retired}
use Rattle.book_parts.proofs.SettledLaws.{settled-is}
use Rattle.book_parts.proofs.LineLaws.{order-newer, stands-retired, with-retired, older-few}
use Rattle.book_parts.proofs.line.LineWork.retire.Goals as goal

pub retire_all-requires : goal.retire_all-requires
retire_all-requires c =
    let items = c.self.inside.works.items in
    let older = c.self.inside.older in
    let newer = c.self.inside.newer in
    rw c.deref_mut.ensures.value (record {
      older = older-few items older newer c.self.invariant.each;
      settled = settled-is items older newer c.self.invariant.each ∙ subst (λ (l : LineState). is_settled l ≡ true) (sym c.self.view_is) c.requires;
    })

pub invariant_of-self : goal.invariant_of-self
invariant_of-self c =
    let items = c.self.inside.works.items in
    let older = c.self.inside.older in
    let newer = c.self.inside.newer in
    let final : (with_items c.self.inside.works c.retire_all.new.works).items ≡ map work_retired items =
    with_items_is c.self.inside.works c.retire_all.new.works (omega (arith, c.retire_all.auto.works, c.deref_mut.ensures.len)) ∙ c.retire_all.ensures ∙ ap (map work_retired) c.deref_mut.ensures.value in
    let none : c.replace.new.dest ≡ [] = c.replace.ensures.after ∙ c.new.ensures in
    rw (final, c.replace.ensures.value, none) (record { each = stands-retired items older newer c.self.invariant.each; order = order-newer older newer c.self.invariant.order })

pub returns : goal.returns
returns c =
    let items = c.self.inside.works.items in
    let older = c.self.inside.older in
    let newer = c.self.inside.newer in
    let final : (with_items c.self.inside.works c.retire_all.new.works).items ≡ map work_retired items =
    with_items_is c.self.inside.works c.retire_all.new.works (omega (arith, c.retire_all.auto.works, c.deref_mut.ensures.len)) ∙ c.retire_all.ensures ∙ ap (map work_retired) c.deref_mut.ensures.value in
    let none : c.replace.new.dest ≡ [] = c.replace.ensures.after ∙ c.new.ensures in
    ap (λ (l : List SlaveWork). line_of l c.replace.result c.replace.new.dest) final
    ∙ ap (λ (o : List Entry). line_of (map work_retired items) o c.replace.new.dest) c.replace.ensures.value
    ∙ ap (line_of (map work_retired items) newer) none
    ∙ with-retired items older newer c.self.invariant.each
    ∙ ap retired c.self.view_is
