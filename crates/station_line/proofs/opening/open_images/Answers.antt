use Rattle.std.proofs.Common.{ℕ, ◌+◌, Global, List, Some, String, Vec, arith, map, string_bytes, subst, sym, take}
use Rattle.std.proofs.lemmas.List.{take_all}
use Rattle.station_line.specs.OpenFiles.{AreOpenedAs}
use Rattle.station_files.proofs.Saved.{others_step}
use Rattle.station_line.proofs.OneOpened.{opened_more}
use Rattle.station_line.proofs.opening.open_images.Goals as goal

pub loop-slave-preserved : goal.loop-slave-preserved
loop-slave-preserved g c = record {
  others = others_step (g.S.Store.files c.args.store.now) (g.S.Store.files c.loop-slave.store) (g.S.Store.files c.open.new.self) c.args.names.now c.loop-slave.slave c.index-names-slave.result c.as_str.result.now
      (omega arith) c.index-names-slave.is c.as_str.ensures.value c.loop-slave.invariant.others c.open.ensures.others;
  opened =
      subst (AreOpenedAs g.S.Store.opened (map (λ name. string_bytes name) (take (c.loop-slave.slave + 1) c.args.names.now)) (map (λ bytes. bytes.items) (take (c.loop-slave.slave + 1) c.args.contents.now))) (sym c.in_ok-push.ensures.items)
      (opened_more g.S.Store.opened (λ name. string_bytes name) (λ bytes. bytes.items) c.args.names.now c.args.contents.now c.loop-slave.slave c.index-names-slave.result c.index-contents-slave.result
      c.loop-slave.images.items (Some c.in_ok-image.image) (omega arith) (omega arith) c.index-names-slave.is c.index-contents-slave.is
      c.loop-slave.invariant.opened (rw (c.as_str.ensures.value, c.deref.ensures.value) at c.in_ok-image.ensures.opened));
}

pub returns-clause-opened : goal.returns-clause-opened
returns-clause-opened g c =
    let P : List (String Global) → Type 0 = λ names. AreOpenedAs g.S.Store.opened (map (λ name. string_bytes name) names) (map (λ bytes. bytes.items) c.args.contents.now) c.loop-slave.images.items in
    let Q : List (Vec ℕ Global) → Type 0 = λ contents. AreOpenedAs g.S.Store.opened (map (λ name. string_bytes name) (take c.loop-slave.slave c.args.names.now)) (map (λ bytes. bytes.items) contents) c.loop-slave.images.items in
    subst P (take_all c.loop-slave.slave c.args.names.now (omega arith)) (subst Q (take_all c.loop-slave.slave c.args.contents.now (omega arith)) c.loop-slave.invariant.opened)

pub returns-in_err-image-clause-others : goal.returns-in_err-image-clause-others
returns-in_err-image-clause-others g c =
    others_step (g.S.Store.files c.args.store.now) (g.S.Store.files c.loop-slave.store) (g.S.Store.files c.open.new.self) c.args.names.now c.loop-slave.slave c.index-names-slave.result c.as_str.result.now
    (omega arith) c.index-names-slave.is c.as_str.ensures.value c.loop-slave.invariant.others c.open.ensures.others

pub returns-in_err-push-clause-others : goal.returns-in_err-push-clause-others
returns-in_err-push-clause-others g c =
    others_step (g.S.Store.files c.args.store.now) (g.S.Store.files c.loop-slave.store) (g.S.Store.files c.open.new.self) c.args.names.now c.loop-slave.slave c.index-names-slave.result c.as_str.result.now
    (omega arith) c.index-names-slave.is c.as_str.ensures.value c.loop-slave.invariant.others c.open.ensures.others
