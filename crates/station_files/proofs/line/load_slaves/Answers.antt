use Rattle.std.proofs.Common.{◌≡◌, ℕ, ◌+◌, ◌<◌, List, [], ◌∷◌, ◌++◌, length, map, take, get_or, subst, ap, ◌∙◌, rules}
use Rattle.std.proofs.Common.{String, Global, string_bytes}
use Rattle.std.specs.List.{AllZip}
use Rattle.station_files.specs.Files.{Known}
use Rattle.station_files.specs.LineFiles.{SpellsWords}
use Rattle.sii_words.proofs.ListedMembers.{AllZip-take-step}
use Rattle.station_files.proofs.Loaded.{first_refused}
use Rattle.station_files.proofs.line.load_slaves.Goals as goal

-- one more slave
spells_one_more : (old new : Known) (images : List (String Global)) (i : ℕ) (d : String Global) (name : List ℕ) (plant : List (List ℕ)) (words : List ℕ) → i < length images → new ≡ old → name ≡ string_bytes (get_or images i d) → AllZip (SpellsWords old) (map (λ image. string_bytes image) (take i images)) plant → SpellsWords new name words → AllZip (SpellsWords old) (map (λ image. string_bytes image) (take (i + 1) images)) (plant ++ words ∷ [])
spells_one_more old new images i d name plant words inside same named spelt here =
    let P : Known → Type 0 = λ files. SpellsWords files name words in
    let Q : List ℕ → Type 0 = λ image. SpellsWords old image words in
    AllZip-take-step (SpellsWords old) (λ image. string_bytes image) images i d plant words inside spelt (subst Q named (subst P same here))

pub loop-image-preserved : goal.loop-image-preserved
loop-image-preserved g c = record {
  count = search rules;
  held =
      let inside : c.loop-image.image-index < length c.args.line.now.images.items = search rules in
      let named : c.as_str.result.now ≡ string_bytes (get_or c.args.line.now.images.items c.loop-image.image-index c.image-item.result) = c.as_str.ensures.value ∙ ap (λ image. string_bytes image) (rw c.deref-image-items.ensures.value at c.image-item.is) in
      rw c.in_ok-push-in-Ok.ensures.items (spells_one_more _ (g.S.Store.files c.loop-image.store) _ _ _ _ _ _ inside c.loop-image.invariant.same named c.loop-image.invariant.held c.in-Ok.ensures.words);
  same = c.load_slave.ensures.same ∙ c.loop-image.invariant.same;
}

pub returns-in-Err-clause-refused : goal.returns-in-Err-clause-refused
returns-in-Err-clause-refused g c =
    let inside : c.loop-image.image-index < length c.args.line.now.images.items = search rules in
    let is = rw c.deref-image-items.ensures.value at c.image-item.is in
    first_refused (g.S.Store.files c.args.store.now) (g.S.Store.files c.loop-image.store) c.args.line.now.images.items c.loop-image.image-index c.image-item.result c.as_str.result.now c.loop-image.slaves.items c.in-Err.fault
    inside is c.as_str.ensures.value c.loop-image.invariant.same c.loop-image.invariant.held c.in-Err.ensures.refused
