use Rattle.std.proofs.Common.{◌≡◌, ℕ, ◌+◌, ◌<◌, List, [], ◌∷◌, ◌++◌, Option, length, map, take, get_or, subst, ap, ◌∙◌, rules}
use Rattle.std.proofs.Common.{String, Global, string_bytes}
use Rattle.std.specs.List.{AllZip}
use Rattle.station_files.specs.Files.{Known}
use Rattle.sii_words.proofs.ListedMembers.{AllZip-take-step}
use Rattle.wire_scan.specs.Keeping.{IsImageOf}
use Rattle.wire_scan.proofs.Refusing.{first_refused}
use Rattle.wire_scan.proofs.keeping.load_images.Goals as goal

-- one more image file
one_more : (old new : Known) (names : List (String Global)) (i : ℕ) (d : String Global) (name : List ℕ) (images : List (Option (List ℕ))) (image : Option (List ℕ)) → i < length names → new ≡ old
    → name ≡ string_bytes (get_or names i d) → AllZip (IsImageOf old) (map (λ name. string_bytes name) (take i names)) images → IsImageOf new name image
    → AllZip (IsImageOf old) (map (λ name. string_bytes name) (take (i + 1) names)) (images ++ image ∷ [])
one_more old new names i d name images image inside same named before here =
    let P : Known → Type 0 = λ files. IsImageOf files name image in
    let Q : List ℕ → Type 0 = λ n. IsImageOf old n image in
    AllZip-take-step (IsImageOf old) (λ name. string_bytes name) names i d images image inside before (subst Q named (subst P same here))

pub loop-name-preserved : goal.loop-name-preserved
loop-name-preserved g c = record {
  count = search rules;
  images =
      let inside : c.loop-name.name-index < length c.args.names.now = search rules in
      let named : c.as_str.result.now ≡ string_bytes (get_or c.args.names.now c.loop-name.name-index c.name-item.result) = c.as_str.ensures.value ∙ ap (λ name. string_bytes name) c.name-item.is in
      rw c.in_ok-push-in-Ok.ensures.items (one_more (g.S.Store.files c.args.store.now) (g.S.Store.files c.loop-name.store) c.args.names.now c.loop-name.name-index c.name-item.result c.as_str.result.now c.loop-name.images.items c.in-Ok.image inside c.loop-name.invariant.same named c.loop-name.invariant.images c.in-Ok.ensures.image);
  same = c.load_image.ensures.same ∙ c.loop-name.invariant.same;
}

pub returns-in-Err-clause-refused : goal.returns-in-Err-clause-refused
returns-in-Err-clause-refused g c =
    let inside : c.loop-name.name-index < length c.args.names.now = search rules in
    let named : c.as_str.result.now ≡ string_bytes (get_or c.args.names.now c.loop-name.name-index c.name-item.result) = c.as_str.ensures.value ∙ ap (λ name. string_bytes name) c.name-item.is in
    first_refused (g.S.Store.files c.args.store.now) (g.S.Store.files c.loop-name.store) c.args.names.now c.loop-name.name-index c.name-item.result c.as_str.result.now c.loop-name.images.items c.in-Err.fault
    inside named c.loop-name.invariant.same c.loop-name.invariant.images c.in-Err.ensures.refused
