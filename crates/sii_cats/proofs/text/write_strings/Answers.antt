use Rattle.std.proofs.Common.{◌<◌, ◌∙◌, length, ap, refl, sym, subst, arith}
use Rattle.std.specs.Prelude.{IsTrue}
use Rattle.std.proofs.lemmas.List.{length-map}
use Rattle.std.proofs.lemmas.List.Elements.{All-map}
use Rattle.sii_cats.specs.Bytes.{padded}
use Rattle.sii_cats.specs.Strings.{AreStrings, texts}
use Rattle.sii_cats.proofs.RoundTrip.{strings_back}
use Rattle.sii_cats.proofs.Writable.{All-from_map}
use Rattle.sii_cats.proofs.text.write_strings.Goals as goal

pub returns-then-not-are_writable-clause-written : goal.returns-then-not-are_writable-clause-written
returns-then-not-are_writable-clause-written c = (
  refl,
  λ h.
      let few : length c.args.strings.now < 256 = omega (arith, length-map c.args.strings.now (λ string. string.items), h.few) in
      let yes : IsTrue c.are_writable.result = c.are_writable.ensures.1 (few, All-from_map (λ string. length string < 256) (λ string. string.items) c.args.strings.now h.short) in cc,
)

pub returns-clause-written : goal.returns-clause-written
returns-clause-written c =
    let writable = c.are_writable.ensures.0 c.if-not-are_writable.false in
    let few : length (texts c.args.strings.now) < 256 = omega (arith, length-map c.args.strings.now (λ string. string.items), writable.0) in (
      record { few = few; short = All-map (λ string. length string < 256) (λ string. string.items) c.args.strings.now writable.1 },
      c.in_ok-packed.ensures ∙ ap padded (c.deref.ensures.value ∙ c.in_ok-write_all.ensures),
    )

pub returns-clause-read_back : goal.returns-clause-read_back
returns-clause-read_back c =
    let spelt = c.in_ok-packed.ensures ∙ ap padded (c.deref.ensures.value ∙ c.in_ok-write_all.ensures) in
    subst (λ bytes. AreStrings bytes (texts c.args.strings.now)) (sym spelt) (strings_back (texts c.args.strings.now))
