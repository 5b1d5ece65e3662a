use Rattle.std.proofs.Common.{◌≡◌, ◌++◌, ap, sym, ◌∙◌, append_assoc, take, arith}
use Rattle.std.proofs.lemmas.List.{append-nil, take_all}
use Rattle.std.specs.List.{flat_map}
use Rattle.sii_cats.specs.Bytes.{bytes_of}
use Rattle.sii_cats.specs.Pdos.{entry_bytes, head_bytes, view}
use Rattle.sii_cats.proofs.WordBytes.{written_more, bytes_of-append}
use Rattle.sii_cats.proofs.mappings.write_pdo.Goals as goal

pub loop-entry-init : goal.loop-entry-init
loop-entry-init c = rw c.in_ok-push_four.ensures
    (bytes_of-append c.args.words.now.items c.head_words.result ∙ ap (λ bytes. bytes_of c.args.words.now.items ++ bytes) c.head_words.ensures
    ∙ sym (append-nil (bytes_of c.args.words.now.items ++ head_bytes (view c.args.pdo.now))))

pub loop-entry-preserved : goal.loop-entry-preserved
loop-entry-preserved c = rw c.in_ok-push_four-2.ensures
    (written_more entry_bytes (bytes_of c.args.words.now.items ++ head_bytes (view c.args.pdo.now)) c.loop-entry.words.items c.entry_words.result c.deref-entry-items.result.now c.loop-entry.entry-index _ (omega arith) c.loop-entry.invariant c.entry_words.ensures)

pub returns : goal.returns
returns c =
    let front = bytes_of c.args.words.now.items in
    let head = head_bytes (view c.args.pdo.now) in
    let done : take c.loop-entry.entry-index c.deref-entry-items.result.now ≡ c.deref-entry-items.result.now = take_all c.loop-entry.entry-index c.deref-entry-items.result.now (omega arith) in
    c.loop-entry.invariant ∙ ap (λ es. (front ++ head) ++ flat_map entry_bytes es) (done ∙ c.deref-entry-items.ensures.value)
    ∙ append_assoc front head (flat_map entry_bytes c.args.pdo.now.entries.items)
