use Rattle.std.proofs.Common.{refl}
use Rattle.wire_scan.proofs.Opened.{made, opened_after}
use Rattle.wire_scan.proofs.opening.open_line.Goals as goal

pub returns-in_err-make_images-clause-others : goal.returns-in_err-make_images-clause-others
returns-in_err-make_images-clause-others g c =
    made (g.S.Store.files c.args.store.now) (g.S.Store.files c.make_images.new.store) c.args.line.now (rw c.deref.ensures.value at c.make_images.ensures.others)

pub returns-in_err-opened-clause-others : goal.returns-in_err-opened-clause-others
returns-in_err-opened-clause-others g c =
    opened_after (g.S.Store.files c.args.store.now) (g.S.Store.files c.make_images.new.store) (g.S.Store.files c.open.new.self) (g.S.Store.files c.open.new.self) c.args.line.now
    (rw c.deref.ensures.value at c.make_images.ensures.others) (rw c.as_str.ensures.value at c.open.ensures.others) (λ other absent. refl)

pub returns-in_err-images-clause-others : goal.returns-in_err-images-clause-others
returns-in_err-images-clause-others g c =
    opened_after (g.S.Store.files c.args.store.now) (g.S.Store.files c.make_images.new.store) (g.S.Store.files c.open.new.self) (g.S.Store.files c.open_images.new.store) c.args.line.now
    (rw c.deref.ensures.value at c.make_images.ensures.others) (rw c.as_str.ensures.value at c.open.ensures.others) (rw c.deref-3.ensures.value at c.open_images.ensures.others)

pub returns-clause-others : goal.returns-clause-others
returns-clause-others g c =
    opened_after (g.S.Store.files c.args.store.now) (g.S.Store.files c.make_images.new.store) (g.S.Store.files c.open.new.self) (g.S.Store.files c.open_images.new.store) c.args.line.now
    (rw c.deref.ensures.value at c.make_images.ensures.others) (rw c.as_str.ensures.value at c.open.ensures.others) (rw c.deref-3.ensures.value at c.open_images.ensures.others)
