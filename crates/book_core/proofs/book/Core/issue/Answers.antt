use Rattle.std.proofs.Common.{◌≡◌, ◌<◌, ℕ, false, Some, None, length, refl, sym, ◌∙◌, ap, subst}
use Rattle.std.specs.Prelude.{is_some}
use Rattle.book_model.specs.Pending.{first}
use Rattle.book_model.specs.Book.{Book, NoOperation, slave_at}
use Rattle.book_model.specs.RomSteps.{rom_next, without_work}
use Rattle.book_model.specs.RomSteps as steps
use Rattle.book_parts.specs.Line.{LineState, to_do, with_issue}
use Rattle.book_core.specs.Parts.{book_of}
use Rattle.book_core.proofs.WorkLaws.{issue-stands}
use Rattle.book_core.proofs.RomLaws.{next-issue, next-none, same-to_do}
use Rattle.book_core.proofs.book.Core.issue.Goals as goal

pub invariant_of-self : goal.invariant_of-self
invariant_of-self c =
    let core = c.self.inside in
    let within : c.args.slave < length core.work.slaves = subst (λ (b : Book). c.args.slave < length b.slaves) (sym c.self.view_is) c.requires.slave in
    let vacant : (slave_at (book_of core) c.args.slave).operation ≡ NoOperation = ap (λ (b : Book). (slave_at b c.args.slave).operation) c.self.view_is ∙ c.requires.vacant in
    let none : is_some core.fault ≡ false = cc in
    rw c.issue.ensures.issued
    (issue-stands core.words.value core.found core.area core.step core.ledger core.work core.shown core.fault c.args.slave (first (to_do core.work c.args.slave)) refl within vacant none c.self.invariant)

pub returns-in-Some-clause-answer : goal.returns-in-Some-clause-answer
returns-in-Some-clause-answer c =
    let core = c.self.inside in
    let within : c.args.slave < length core.work.slaves = subst (λ (b : Book). c.args.slave < length b.slaves) (sym c.self.view_is) c.requires.slave in
    let vacant : (slave_at (book_of core) c.args.slave).operation ≡ NoOperation = ap (λ (b : Book). (slave_at b c.args.slave).operation) c.self.view_is ∙ c.requires.vacant in
    let none : is_some core.fault ≡ false = cc in
    let is : first (steps.to_do (book_of core) c.args.slave) ≡ Some (c.in-Some.word, c.in-Some.value) =
    ap first (same-to_do (book_of core) core.work c.args.slave refl c.self.invariant.live) ∙ sym c.issue.ensures.word ∙ c.in-Some.is in
    sym (ap (λ r. r.0) (next-issue (book_of core) c.args.slave (c.in-Some.word, c.in-Some.value) within vacant none is))
    ∙ ap (λ (b : Book). (rom_next b c.args.slave).0) c.self.view_is

pub returns-in-Some-clause-book : goal.returns-in-Some-clause-book
returns-in-Some-clause-book c =
    let core = c.self.inside in
    let within : c.args.slave < length core.work.slaves = subst (λ (b : Book). c.args.slave < length b.slaves) (sym c.self.view_is) c.requires.slave in
    let vacant : (slave_at (book_of core) c.args.slave).operation ≡ NoOperation = ap (λ (b : Book). (slave_at b c.args.slave).operation) c.self.view_is ∙ c.requires.vacant in
    let none : is_some core.fault ≡ false = cc in
    let w : ℕ × ℕ = (c.in-Some.word, c.in-Some.value) in
    let is : first (steps.to_do (book_of core) c.args.slave) ≡ Some w =
    ap first (same-to_do (book_of core) core.work c.args.slave refl c.self.invariant.live) ∙ sym c.issue.ensures.word ∙ c.in-Some.is in
    let made : c.issue.new.self ≡ with_issue core.work c.args.slave (Some w) = c.issue.ensures.issued ∙ ap (with_issue core.work c.args.slave) (sym c.issue.ensures.word ∙ c.in-Some.is) in
    ap (λ (l : LineState). book_of (record core { work = l })) made
    ∙ sym (ap (λ r. r.1) (next-issue (book_of core) c.args.slave w within vacant none is))
    ∙ ap (λ (b : Book). (rom_next b c.args.slave).1) c.self.view_is

pub returns-in-None-clause-answer : goal.returns-in-None-clause-answer
returns-in-None-clause-answer c =
    let core = c.self.inside in
    let within : c.args.slave < length core.work.slaves = subst (λ (b : Book). c.args.slave < length b.slaves) (sym c.self.view_is) c.requires.slave in
    let vacant : (slave_at (book_of core) c.args.slave).operation ≡ NoOperation = ap (λ (b : Book). (slave_at b c.args.slave).operation) c.self.view_is ∙ c.requires.vacant in
    let none : is_some core.fault ≡ false = cc in
    let is : first (steps.to_do (book_of core) c.args.slave) ≡ None =
    ap first (same-to_do (book_of core) core.work c.args.slave refl c.self.invariant.live) ∙ sym c.issue.ensures.word ∙ c.in-None.is in
    c.without_work.ensures
    ∙ sym (ap (λ r. r.0) (next-none (book_of core) c.args.slave within vacant none is))
    ∙ ap (λ (b : Book). (rom_next b c.args.slave).0) c.self.view_is

pub returns-in-None-clause-book : goal.returns-in-None-clause-book
returns-in-None-clause-book c =
    let core = c.self.inside in
    let within : c.args.slave < length core.work.slaves = subst (λ (b : Book). c.args.slave < length b.slaves) (sym c.self.view_is) c.requires.slave in
    let vacant : (slave_at (book_of core) c.args.slave).operation ≡ NoOperation = ap (λ (b : Book). (slave_at b c.args.slave).operation) c.self.view_is ∙ c.requires.vacant in
    let none : is_some core.fault ≡ false = cc in
    let first_none : first (to_do core.work c.args.slave) ≡ None = sym c.issue.ensures.word ∙ c.in-None.is in
    let is : first (steps.to_do (book_of core) c.args.slave) ≡ None = ap first (same-to_do (book_of core) core.work c.args.slave refl c.self.invariant.live) ∙ first_none in
    let made : c.issue.new.self ≡ core.work = c.issue.ensures.issued ∙ ap (with_issue core.work c.args.slave) first_none in
    ap (λ (l : LineState). book_of (record core { work = l })) made
    ∙ sym (ap (λ r. r.1) (next-none (book_of core) c.args.slave within vacant none is))
    ∙ ap (λ (b : Book). (rom_next b c.args.slave).1) c.self.view_is
