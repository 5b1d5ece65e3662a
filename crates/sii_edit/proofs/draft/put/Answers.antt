use Rattle.std.proofs.Common.{◌≡◌, ◌≢◌, ◌<◌, List, ℕ, get_or, set, length, ap, ap₂, sym, ◌∙◌, arith}
use Rattle.std.specs.List.{insert}
use Rattle.std.proofs.lemmas.List.{get_or_read}
use Rattle.sii_edit.specs.declared.draft.NewWords.{NewWords}
use Rattle.sii_edit.specs.declared.draft.Renewal.{Renewal}
use Rattle.sii_edit.specs.steps.Draft.{place_of}
use Rattle.sii_edit.proofs.PlaceLaws.{put_over, put_new, renewal_over}
use Rattle.sii_edit.proofs.draft.put.Goals as goal
use Rattle.sii_edit.proofs.draft.put.Goals.{else-place-len-via-then-place-len+else-index-slave, else-place-len-via-else-place-len}

pub returns-then-index-slave-clause-put : goal.returns-then-index-slave-clause-put
returns-then-index-slave-clause-put c =
    let items : List Renewal = c.args.renewals.now.items in
    let slave = c.args.slave in
    let old : Renewal = c.index_mut.result.now in
    let place : c.place_of-place.result ≡ place_of items slave = c.place_of-place.ensures.place ∙ ap (λ (d : List Renewal). place_of d slave) c.deref.ensures.value in
    let within : c.place_of-place.result < length items = omega (arith, c.if-place-len.true, c.len.ensures, c.args.renewals.now.ok) in
    let read : c.index.result.now ≡ get_or items (place_of items slave) old =
    get_or_read items c.place_of-place.result c.index.result.now within c.index.ensures old ∙ ap (λ (n : ℕ). get_or items n old) place in
    let has : old ≡ get_or items (place_of items slave) old = c.index_mut.ensures.value ∙ ap (λ (n : ℕ). get_or items n old) place in
    let made : record { slave = old.slave; new = c.put_over.new.old } ≡ renewal_over (get_or items (place_of items slave) old) c.args.new =
    ap (λ (w : NewWords). record { slave = old.slave; new = w }) c.put_over.ensures ∙ ap (λ (r : Renewal). renewal_over r c.args.new) has in
    ap₂ (λ (n : ℕ) (r : Renewal). set items n r) place made
    ∙ put_over items slave c.args.new old (omega (arith, within, place)) (ap (λ (r : Renewal). r.slave) (sym read) ∙ c.if-index-slave.true)

pub returns-clause-put : goal.returns-clause-put
returns-clause-put c =
    let items : List Renewal = c.args.renewals.now.items in
    let slave = c.args.slave in
    let mine : Renewal = record { slave = slave; new = c.args.new } in
    let place : c.place_of-place.result ≡ place_of items slave = c.place_of-place.ensures.place ∙ ap (λ (d : List Renewal). place_of d slave) c.deref.ensures.value in
    let other : place_of items slave < length items → (get_or items (place_of items slave) mine).slave ≢ slave =
    elim c.else-place-len.branch [
      | else-place-len-via-then-place-len+else-index-slave w ↦
          λ within same.
          (let read : w.index.result.now ≡ get_or items (place_of items slave) mine =
          get_or_read items c.place_of-place.result w.index.result.now (omega (arith, within, place)) w.index.ensures mine ∙ ap (λ (n : ℕ). get_or items n mine) place in
          w.if-index-slave.false (ap (λ (r : Renewal). r.slave) read ∙ same))
      | else-place-len-via-else-place-len w ↦ λ within same. absurd (omega (arith, within, place, w.if-place-len.false, c.len.ensures, c.args.renewals.now.ok))
    ] in
    c.in_ok-insert.ensures.items ∙ ap (λ (n : ℕ). insert items n mine) place ∙ put_new items slave c.args.new mine other
