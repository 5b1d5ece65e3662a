use Rattle.std.proofs.Common.{◌≡◌, ℕ, ◌+◌, ◌-◌, List, ◌++◌, length, drop, map, refl, subst, arith}
use Rattle.std.specs.Global.{Vec}
use Rattle.std.proofs.lemmas.List.{length-map}
use Rattle.sii_cats.specs.Strings.{AreStrings}
use Rattle.sii_bytes.specs.Content.ReadsString.{done, zero_is_none, fewer, no_room}
use Rattle.sii_bytes.proofs.ContentItems.{item_of}
use Rattle.sii_bytes.proofs.content.read_string.Goals as goal
use Rattle.sii_bytes.proofs.content.read_string.Goals.{then-number-eq0-via-then-number-eq0, then-number-eq0-via-else-number-eq0+then-number-len}

abbrev text_of : Vec ℕ → List ℕ
text_of string = string.items

pub returns-then-number-eq0 : goal.returns-then-number-eq0
returns-then-number-eq0 c = elim c.then-number-eq0.branch [
  | then-number-eq0-via-then-number-eq0 w ↦ zero_is_none refl (omega arith) (refl, refl)
  | then-number-eq0-via-else-number-eq0+then-number-len w ↦
      let same = length-map c.in-Ok.found.items text_of in
      fewer (map text_of c.in-Ok.found.items) refl c.in-Ok.ensures (omega arith) (refl, refl)
]

pub returns-then-len-text : goal.returns-then-len-text
returns-then-len-text c =
    let next : c.args.number ≡ c.args.number - 1 + 1 = omega arith in
    no_room (c.args.number - 1) c.index-string.result.now.items refl next
    (item_of text_of AreStrings c.args.content.now c.in-Ok.found.items (c.args.number - 1) c.index-string.result.now c.in-Ok.ensures (omega arith) c.index-string.ensures)
    (omega arith) (refl, refl)

pub returns : goal.returns
returns c =
    let next : c.args.number ≡ c.args.number - 1 + 1 = omega arith in
    let written = subst (λ (s : List ℕ). c.put_string.new.text ≡ s ++ drop (length s) c.args.text.now) c.deref.ensures.value c.put_string.ensures in
    done (c.args.number - 1) c.index-string.result.now.items refl next
    (item_of text_of AreStrings c.args.content.now c.in-Ok.found.items (c.args.number - 1) c.index-string.result.now c.in-Ok.ensures (omega arith) c.index-string.ensures)
    written (omega arith)
