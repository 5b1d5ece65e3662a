use Rattle.std.proofs.Common.{◌≡◌, ◌++◌, map, ap, sym, subst, ◌∙◌, arith}
use Rattle.std.specs.Prelude.{OnOk}
use Rattle.jrn_format.specs.declared.journal.Spelling.{Spelling}
use Rattle.jrn_format.specs.declared.journal.Spelling.TheVariants.{Plain, WithGeneration}
use Rattle.jrn_format.specs.Batch.{AreCounted, spelt_after, spelt_batch}
use Rattle.jrn_release.specs.Without.{entry_without, batch_without}
use Rattle.jrn_release.proofs.Less.{counted, payload_fits}
use Rattle.jrn_release.proofs.Put.{ok_put, cut, behind}
use Rattle.jrn_release.proofs.area.put_batch.Goals as goal

pub encode_batch-requires : goal.encode_batch-requires
encode_batch-requires c =
    subst AreCounted (sym (c.deref.ensures.value ∙ c.in_ok-entries.ensures ∙ ap (map (entry_without c.args.slave)) c.as_slice.ensures))
    (counted (map (entry_without c.args.slave) c.args.batch.now.entries) (payload_fits c.args.slave c.args.batch.now.entries c.requires))

pub returns-in-Plain : goal.returns-in-Plain
returns-in-Plain c =
    let entries : c.deref.result.now ≡ map (entry_without c.args.slave) c.args.batch.now.entries = c.deref.ensures.value ∙ c.in_ok-entries.ensures ∙ ap (map (entry_without c.args.slave)) c.as_slice.ensures in
    let batch = c.args.batch.now in
    let all : c.deref-in-Plain.result.now ≡ spelt_after WithGeneration batch.generation (map (entry_without c.args.slave) batch.entries) =
    c.deref-in-Plain.ensures.value
    ∙ cut c.in_ok-spelt.spelt.items (spelt_after WithGeneration batch.generation c.deref.result.now) c.truncate.new.self.items c.len.result c.in_ok-spelt.ensures.spelt (omega (arith, c.len.ensures)) c.truncate.ensures.items
    ∙ ap (spelt_after WithGeneration batch.generation) entries in
    let part = behind c.deref-in-Plain.result.now (spelt_after Plain batch.generation (map (entry_without c.args.slave) batch.entries)) batch.generation all in
    subst (λ (s : Spelling). OnOk c.extend_from_slice.result (c.extend_from_slice.new.self.items ≡ c.args.bytes.now.items ++ spelt_batch s (batch_without c.args.slave c.args.batch.now))) (sym c.in-Plain.is)
    (ok_put c.extend_from_slice.result c.args.bytes.now.items c.push.new.self.items c.extend_from_slice.new.self.items _ _ c.extend_from_slice.ensures.items c.in_ok-push.ensures.items part)

pub returns : goal.returns
returns c =
    let entries : c.deref.result.now ≡ map (entry_without c.args.slave) c.args.batch.now.entries = c.deref.ensures.value ∙ c.in_ok-entries.ensures ∙ ap (map (entry_without c.args.slave)) c.as_slice.ensures in
    let batch = c.args.batch.now in
    let part : c.deref-in-WithGeneration.result.now ≡ spelt_after WithGeneration batch.generation (map (entry_without c.args.slave) batch.entries) =
    c.deref-in-WithGeneration.ensures.value
    ∙ cut c.in_ok-spelt.spelt.items (spelt_after WithGeneration batch.generation c.deref.result.now) c.truncate.new.self.items c.len.result c.in_ok-spelt.ensures.spelt (omega (arith, c.len.ensures)) c.truncate.ensures.items
    ∙ ap (spelt_after WithGeneration batch.generation) entries in
    subst (λ (s : Spelling). OnOk c.extend_from_slice-in-WithGeneration.result (c.extend_from_slice-in-WithGeneration.new.self.items ≡ c.args.bytes.now.items ++ spelt_batch s (batch_without c.args.slave c.args.batch.now))) (sym c.in-WithGeneration.is)
    (ok_put c.extend_from_slice-in-WithGeneration.result c.args.bytes.now.items c.push.new.self.items c.extend_from_slice-in-WithGeneration.new.self.items _ _ c.extend_from_slice-in-WithGeneration.ensures.items c.in_ok-push.ensures.items part)
