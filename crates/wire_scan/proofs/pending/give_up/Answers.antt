use Rattle.std.proofs.Common.{◌≡◌, ℕ, ◌<◌, List, [], Some, length, map, get_or, string_bytes, ap, subst, ◌∙◌, rules}
use Rattle.std.specs.List.{slice_get}
use Rattle.std.proofs.lemmas.List.{get_or_read}
use Rattle.sii_words.specs.Plant.{words_of}
use Rattle.sii_words.specs.Words.{bytes_of}
use Rattle.jrn_release.specs.Without.{IsWithout}
use Rattle.station_files.specs.Files.{HasBytes, ChangesOnly}
use Rattle.station_files.specs.FileNames.{spelt}
use Rattle.wire_scan.proofs.GivingUp.{given_up, named_at}
use Rattle.wire_scan.proofs.pending.give_up.Goals as goal

pub returns-clause-given : goal.returns-clause-given
returns-clause-given g c =
    let plant = c.args.found.now.slaves.items in
    let images = c.args.found.now.line.images.items in
    let slave = c.args.slave in
    let old = g.S.Store.files c.args.store.now in
    let mid = g.S.Store.files c.write.new.self in
    let new = g.S.Store.files c.write-2.new.self in
    let name = string_bytes c.index-2.result.now in
    let at : c.from-place.result ≡ slave = c.from-place.ensures in
    let inside : c.from-place.result < length plant = search rules in
    let among : c.from-place.result < length images = subst (λ (n : ℕ). c.from-place.result < n) c.requires.count inside in
    let named : slice_get (spelt images) slave ≡ Some name =
    subst (λ (n : ℕ). slice_get (spelt images) n ≡ Some name) at (named_at images c.from-place.result c.index-2.result.now among c.index-2.ensures) in
    let words : c.index.result.now ≡ words_of plant slave =
    get_or_read plant c.from-place.result c.index.result.now inside c.index.ensures [] ∙ ap (λ (n : ℕ). get_or plant n []) at in
    let bytes : c.deref-4.result.now ≡ bytes_of (words_of plant slave) = c.deref-4.ensures.value ∙ c.in_ok-image.ensures ∙ ap bytes_of words in
    let sizes : c.deref-3.result.now ≡ map length plant = c.deref-3.ensures.value ∙ c.in_ok-sizes.ensures ∙ ap (map length) c.deref.ensures.value in
    given_up old mid new c.args.found.now.line plant c.args.found.now.journal.items slave name c.in-Ok.journal.items named
    (subst (λ (b : List ℕ). HasBytes mid name b) bytes (subst (λ (n : List ℕ). HasBytes mid n c.deref-4.result.now) c.as_str.ensures.value c.in_ok-write.ensures.written))
    (subst (λ (n : List ℕ). ChangesOnly old mid n) c.as_str.ensures.value c.write.ensures.others)
    (subst (λ (b : List ℕ). HasBytes new (string_bytes c.args.found.now.line.journal) b) c.deref-5.ensures.value
    (subst (λ (n : List ℕ). HasBytes new n c.deref-5.result.now) c.as_str-2.ensures.value c.in_ok-write-2.ensures.written))
    (subst (λ (n : List ℕ). ChangesOnly mid new n) c.as_str-2.ensures.value c.write-2.ensures.others)
    (subst (λ (z : List ℕ). IsWithout slave z c.args.found.now.journal.items c.in-Ok.journal.items) sizes
    (subst (λ (b : List ℕ). IsWithout slave c.deref-3.result.now b c.in-Ok.journal.items) c.deref-2.ensures.value c.in-Ok.ensures))
