use Rattle.wire_scan.proofs.GivingUp.{first_found, given_found, none_written, refused_after}
use Rattle.std.proofs.Common.{◌∙◌, ap, Option, ℕ}
use Rattle.wire_faults.specs.declared.faults.WireFault.{WireFault}
use Rattle.wire_scan.specs.Opening.{IfOtherWords, IsOtherFault, RefusesSlaveOf}
use Rattle.wire_scan.specs.Pending.{let_pass}
use Rattle.wire_scan.proofs.Refusing.{handed_on, never_refused, of_other, of_words}
use Rattle.wire_scan.proofs.pending.list_pending.Goals as goal

pub returns-in-Ok-clause-given : goal.returns-in-Ok-clause-given
returns-in-Ok-clause-given g c =
    given_found c.args.order.gives_up c.list_found.result (g.S.Store.files c.args.store.now) (g.S.Store.files c.find_line.new.store) (g.S.Store.files c.list_found.new.store) c.args.order.line.now
    c.args.order.asked.mends c.let_pass.result c.in-Ok.found.line c.in-Ok.found.slaves.items c.in-Ok.found.journal.items c.find_line.ensures.same c.in-Ok.ensures.found
    c.let_pass.ensures c.in-Ok.ensures.kept c.list_found.ensures.given

pub returns-in-Ok-clause-first : goal.returns-in-Ok-clause-first
returns-in-Ok-clause-first g c =
    first_found c.args.order.gives_up (g.S.Store.files c.args.store.now) (g.S.Store.files c.find_line.new.store) (g.S.Store.files c.list_found.new.store) c.args.order.line.now
    c.in-Ok.found.line c.in-Ok.found.slaves.items c.in-Ok.found.journal.items c.find_line.ensures.same c.in-Ok.ensures.found c.list_found.ensures.first

pub returns-in-Err-clause-first : goal.returns-in-Err-clause-first
returns-in-Err-clause-first g c =
    none_written c.args.order.gives_up (g.S.Store.files c.args.store.now) (g.S.Store.files c.find_line.new.store) c.args.order.line.now c.find_line.ensures.same

pub returns-in-Ok-clause-refused : goal.returns-in-Ok-clause-refused
returns-in-Ok-clause-refused g c =
    refused_after c.list_found.result (g.S.Store.files c.args.store.now) (g.S.Store.files c.find_line.new.store) (g.S.Store.files c.list_found.new.store) c.find_line.ensures.same c.list_found.ensures.refused

pub returns-in-Ok-clause-words : goal.returns-in-Ok-clause-words
returns-in-Ok-clause-words g c =
    let mends = let_pass c.args.order.gives_up c.args.order.asked.mends in
    let refuses = RefusesSlaveOf (g.S.Store.files c.args.store.now) c.args.order.line.now mends in
    handed_on (λ (fault : WireFault). IfOtherWords refuses fault) (λ (fault : WireFault). IsOtherFault fault) c.list_found.result (of_other refuses) c.list_found.ensures.failed

pub returns-in-Err-clause-words : goal.returns-in-Err-clause-words
returns-in-Err-clause-words g c =
    let refused = rw c.let_pass.ensures at c.in-Err.ensures.refused in
    of_words (g.S.Store.files c.args.store.now) g.S.Store.leads c.args.order.line.now (let_pass c.args.order.gives_up c.args.order.asked.mends) c.in-Err.fault refused

pub returns-in-Err-clause-passed : goal.returns-in-Err-clause-passed
returns-in-Err-clause-passed g c = λ none.
    let all = c.let_pass.ensures ∙ ap (λ (slave : Option ℕ). let_pass slave c.args.order.asked.mends) none in
    let words = of_words (g.S.Store.files c.args.store.now) g.S.Store.leads c.args.order.line.now c.let_pass.result c.in-Err.fault c.in-Err.ensures.refused in
    never_refused (g.S.Store.files c.args.store.now) c.args.order.line.now c.let_pass.result c.in-Err.fault all words
