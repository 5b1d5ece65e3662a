-- Sync managers and PDOs: what reading one of them leaves, and that reading agrees with the grammar.
use Rattle.std.proofs.Common.{◌≡◌, ℕ, zero, suc, ◌/◌, ◌%◌, ◌<◌, ◌≤◌, List, [], ◌∷◌, ◌++◌, length, map, Result, Ok, Err, refl, sym, ap, subst, ◌∙◌, append_assoc, arith}
use Rattle.std.specs.List.{flat_map}
use Rattle.sii_cats.specs.steps.Items.{◌>>=◌, items_of, counted}
use Rattle.sii_cats.specs.steps.Items.Front.{Ended, Item}
use Rattle.sii_cats.specs.Contents.{AreManagers, manager_bytes, unit_bytes}
use Rattle.sii_cats.specs.steps.Contents.{manager_at}
use Rattle.sii_cats.specs.declared.managers.Manager.{Manager}
use Rattle.sii_cats.specs.declared.mappings.PdoEntry.{PdoEntry}
use Rattle.sii_cats.specs.Pdos.{ArePdos, Mapping, entry_bytes, head_bytes, pdo_bytes}
use Rattle.sii_cats.specs.steps.Pdos.{entry_at, pdo_at, with_entries}
use Rattle.sii_cats.specs.Bytes.{low_first, number, bytes_of}
use Rattle.sii_cats.proofs.Items.{Shrinks, ok_is, bind_ok, IsFront, IsReader, items_are, items_again, counted_takes, counted_again}
use Rattle.sii_cats.proofs.WordBytes.{IsBytes, IsBytes-rest, number-low, number-high, number_again}

manager_shorter : (cells : List ℕ) (x : Manager) (rest : List ℕ) → manager_at cells ≡ Item x rest → length rest < length cells
manager_shorter (s0 ∷ s1 ∷ l0 ∷ l1 ∷ control ∷ status ∷ enable ∷ kind ∷ after) x rest e =
    let same : after ≡ rest = cc in omega (arith, ap length same)
manager_shorter short x rest e = absurd cc

pub manager_shrinks : Shrinks manager_at
manager_shrinks = record { shorter = manager_shorter }

-- an entry's bytes are at least as many as those after it
entry_shorter : (cells : List ℕ) (x : PdoEntry × List ℕ) → entry_at cells ≡ Ok x → length x.1 ≤ length cells
entry_shorter (i0 ∷ i1 ∷ subindex ∷ name ∷ data_type ∷ bit_length ∷ f0 ∷ f1 ∷ after) x e =
    let made : PdoEntry × List ℕ = (record { index = number i0 i1; subindex = subindex; name = name; data_type = data_type; bit_length = bit_length; flags = number f0 f1 }, after) in
    let same : made ≡ x = ok_is made x e in
    let rest : after ≡ x.1 = ap (λ (y : PdoEntry × List ℕ). y.1) same in
    omega (arith, ap length rest)
entry_shorter short x e = absurd cc

entries_shorter : (n : ℕ) (cells : List ℕ) (x : List PdoEntry × List ℕ) → counted entry_at n cells ≡ Ok x → length x.1 ≤ length cells
unfolding counted
entries_shorter zero cells x e =
    let made : List PdoEntry × List ℕ = ([], cells) in
    let rest : cells ≡ x.1 = ap (λ (y : List PdoEntry × List ℕ). y.1) (ok_is made x e) in
    omega (arith, ap length rest)
entries_shorter (suc n) cells x e =
    let first = bind_ok (entry_at cells) (λ f. counted entry_at n f.1 >>= λ o. Ok (f.0 ∷ o.0, o.1)) x e in
    let others = bind_ok (counted entry_at n first.0.1) (λ o. Ok (first.0.0 ∷ o.0, o.1)) x first.2 in
    let made : List PdoEntry × List ℕ = (first.0.0 ∷ others.0.0, others.0.1) in
    let rest : others.0.1 ≡ x.1 = ap (λ (y : List PdoEntry × List ℕ). y.1) (ok_is made x others.2) in
    omega (arith, ap length rest, entry_shorter cells first.0 first.1, entries_shorter n first.0.1 others.0 others.1)

with_entries_is : (pdo : List PdoEntry → Mapping) (read : Result (List PdoEntry × List ℕ) (List ℕ)) (x : Mapping) (rest : List ℕ)
    → with_entries pdo read ≡ Item x rest → (y : List PdoEntry × List ℕ) × (read ≡ Ok y) × (pdo y.0 ≡ x) × (y.1 ≡ rest)
with_entries_is pdo (Ok y) x rest e = (y, refl, cc, cc)
with_entries_is pdo (Err bad) x rest e = absurd cc

pdo_shorter : (cells : List ℕ) (x : Mapping) (rest : List ℕ) → pdo_at cells ≡ Item x rest → length rest < length cells
pdo_shorter (i0 ∷ i1 ∷ count ∷ manager ∷ synchronization ∷ name ∷ f0 ∷ f1 ∷ after) x rest e =
    let read = with_entries_is (λ entries. record { index = number i0 i1; entries = entries; manager = manager; synchronization = synchronization; name = name; flags = number f0 f1 }) (counted entry_at count after) x rest e in
    omega (arith, ap length read.3, entries_shorter count after read.0 read.1)
pdo_shorter short x rest e = absurd cc

pub pdo_shrinks : Shrinks pdo_at
pdo_shrinks = record { shorter = pdo_shorter }

-- ---- sync managers

manager_ended : (cells : List ℕ) → manager_at cells ≡ Ended → length cells < 8
manager_ended (s0 ∷ s1 ∷ l0 ∷ l1 ∷ control ∷ status ∷ enable ∷ kind ∷ after) e = absurd cc
manager_ended short e = omega arith

pub manager_at_end : (cells : List ℕ) → length cells < 8 → manager_at cells ≡ Ended
manager_at_end (s0 ∷ s1 ∷ l0 ∷ l1 ∷ control ∷ status ∷ enable ∷ kind ∷ after) h = absurd (omega arith)
manager_at_end short h = refl

manager_takes : (cells : List ℕ) (x : Manager) (rest : List ℕ) → IsBytes cells → manager_at cells ≡ Item x rest → (cells ≡ manager_bytes x ++ rest) × IsBytes rest
manager_takes (s0 ∷ s1 ∷ l0 ∷ l1 ∷ control ∷ status ∷ enable ∷ kind ∷ after) x rest fits e =
    let made : Manager = record { start = number s0 s1; length = number l0 l1; control = control; status = status; enable = enable; kind = kind } in
    let same : made ≡ x = cc in
    let after-is : after ≡ rest = cc in
    let spelt : s0 ∷ s1 ∷ l0 ∷ l1 ∷ control ∷ status ∷ enable ∷ kind ∷ after ≡ manager_bytes made ++ after =
    rw (number-low s0 s1 (fits 0), number-high s0 s1 (fits 0), number-low l0 l1 (fits 2), number-high l0 l1 (fits 2)) refl in
    let entire : s0 ∷ s1 ∷ l0 ∷ l1 ∷ control ∷ status ∷ enable ∷ kind ∷ after ≡ manager_bytes x ++ rest = spelt ∙ ap (λ m. manager_bytes m ++ after) same ∙ ap (λ (r : List ℕ). manager_bytes x ++ r) after-is in
    (entire, IsBytes-rest (manager_bytes x) rest (subst IsBytes entire fits))
manager_takes short x rest fits e = absurd cc

manager_numbers : (x : Manager) → record { start = number (x.start % 256) (x.start / 256); length = number (x.length % 256) (x.length / 256); control = x.control; status = x.status; enable = x.enable; kind = x.kind } ≡ x
manager_numbers x = rw (number_again x.start, number_again x.length) refl

manager_again : (cells : List ℕ) (x : Manager) (rest : List ℕ) → cells ≡ manager_bytes x ++ rest → manager_at cells ≡ Item x rest
manager_again cells x rest e = ap manager_at e ∙ ap (λ (m : Manager). Item m rest) (manager_numbers x)

pub manager_front : IsFront IsBytes manager_at (λ cells m rest. cells ≡ manager_bytes m ++ rest) (λ rest. length rest < 8)
manager_front = record { ended = manager_ended; at_end = manager_at_end; takes = manager_takes; again = manager_again }

-- ---- PDOs

entry_takes : (cells : List ℕ) (x : PdoEntry × List ℕ) → IsBytes cells → entry_at cells ≡ Ok x → (cells ≡ entry_bytes x.0 ++ x.1) × IsBytes x.1
entry_takes (i0 ∷ i1 ∷ subindex ∷ name ∷ data_type ∷ bit_length ∷ f0 ∷ f1 ∷ after) x fits e =
    let made : PdoEntry = record { index = number i0 i1; subindex = subindex; name = name; data_type = data_type; bit_length = bit_length; flags = number f0 f1 } in
    let spelt : i0 ∷ i1 ∷ subindex ∷ name ∷ data_type ∷ bit_length ∷ f0 ∷ f1 ∷ after ≡ entry_bytes made ++ after =
    rw (number-low i0 i1 (fits 0), number-high i0 i1 (fits 0), number-low f0 f1 (fits 6), number-high f0 f1 (fits 6)) refl in
    subst (λ (y : PdoEntry × List ℕ). (i0 ∷ i1 ∷ subindex ∷ name ∷ data_type ∷ bit_length ∷ f0 ∷ f1 ∷ after ≡ entry_bytes y.0 ++ y.1) × IsBytes y.1)
    (ok_is (made, after) x e) (spelt, IsBytes-rest (entry_bytes made) after (subst IsBytes spelt fits))
entry_takes short x fits e = absurd cc

entry_numbers : (x : PdoEntry) → record { index = number (x.index % 256) (x.index / 256); subindex = x.subindex; name = x.name; data_type = x.data_type; bit_length = x.bit_length; flags = number (x.flags % 256) (x.flags / 256) } ≡ x
entry_numbers x = rw (number_again x.index, number_again x.flags) refl

entry_again : (x : PdoEntry) (rest : List ℕ) → entry_at (entry_bytes x ++ rest) ≡ Ok (x, rest)
entry_again x rest = ap (λ (e : PdoEntry). Ok (e, rest)) (entry_numbers x)

pub entry_reader : IsReader IsBytes entry_at entry_bytes
entry_reader = record { takes = entry_takes; again = entry_again }

never_ended : (pdo : List PdoEntry → Mapping) (read : Result (List PdoEntry × List ℕ) (List ℕ)) → with_entries pdo read ≡ Ended → ⊥
never_ended pdo (Ok y) e = cc
never_ended pdo (Err bad) e = cc

pdo_ended : (cells : List ℕ) → pdo_at cells ≡ Ended → length cells < 8
pdo_ended (i0 ∷ i1 ∷ count ∷ manager ∷ synchronization ∷ name ∷ f0 ∷ f1 ∷ after) e =
    absurd (never_ended (λ entries. record { index = number i0 i1; entries = entries; manager = manager; synchronization = synchronization; name = name; flags = number f0 f1 }) (counted entry_at count after) e)
pdo_ended short e = omega arith

pub pdo_at_end : (cells : List ℕ) → length cells < 8 → pdo_at cells ≡ Ended
pdo_at_end (i0 ∷ i1 ∷ count ∷ manager ∷ synchronization ∷ name ∷ f0 ∷ f1 ∷ after) h = absurd (omega arith)
pdo_at_end short h = refl

pdo_takes : (cells : List ℕ) (x : Mapping) (rest : List ℕ) → IsBytes cells → pdo_at cells ≡ Item x rest → (cells ≡ pdo_bytes x ++ rest) × IsBytes rest
pdo_takes (i0 ∷ i1 ∷ count ∷ manager ∷ synchronization ∷ name ∷ f0 ∷ f1 ∷ after) x rest fits e =
    let pdo : List PdoEntry → Mapping = λ entries. record { index = number i0 i1; entries = entries; manager = manager; synchronization = synchronization; name = name; flags = number f0 f1 } in
    let cells : List ℕ = i0 ∷ i1 ∷ count ∷ manager ∷ synchronization ∷ name ∷ f0 ∷ f1 ∷ after in
    let read = with_entries_is pdo (counted entry_at count after) x rest e in
    let after_fits : IsBytes after = λ i. fits (suc (suc (suc (suc (suc (suc (suc (suc i)))))))) in
    let entries = counted_takes IsBytes entry_at entry_bytes entry_reader count after read.0 after_fits read.1 in
    let head : i0 ∷ i1 ∷ count ∷ manager ∷ synchronization ∷ name ∷ f0 ∷ f1 ∷ [] ≡ head_bytes (pdo read.0.0) =
    rw (number-low i0 i1 (fits 0), number-high i0 i1 (fits 0), number-low f0 f1 (fits 6), number-high f0 f1 (fits 6), entries.1) refl in
    let spelt : cells ≡ pdo_bytes (pdo read.0.0) ++ read.0.1 =
    ap (λ (t : List ℕ). i0 ∷ i1 ∷ count ∷ manager ∷ synchronization ∷ name ∷ f0 ∷ f1 ∷ t) entries.0
    ∙ ap (λ (h : List ℕ). h ++ (flat_map entry_bytes read.0.0 ++ read.0.1)) head
    ∙ sym (append_assoc (head_bytes (pdo read.0.0)) (flat_map entry_bytes read.0.0) read.0.1) in
    let entire : cells ≡ pdo_bytes x ++ rest = spelt ∙ ap (λ (p : Mapping). pdo_bytes p ++ read.0.1) read.2 ∙ ap (λ (r : List ℕ). pdo_bytes x ++ r) read.3 in
    (entire, subst IsBytes read.3 entries.2)
pdo_takes short x rest fits e = absurd cc

pdo_numbers : (x : Mapping) → record { index = number (x.index % 256) (x.index / 256); entries = x.entries; manager = x.manager; synchronization = x.synchronization; name = x.name; flags = number (x.flags % 256) (x.flags / 256) } ≡ x
pdo_numbers x = rw (number_again x.index, number_again x.flags) refl

pdo_again : (cells : List ℕ) (x : Mapping) (rest : List ℕ) → cells ≡ pdo_bytes x ++ rest → pdo_at cells ≡ Item x rest
pdo_again cells x rest e =
    ap pdo_at e
    ∙ ap (with_entries (λ entries. record { index = number (x.index % 256) (x.index / 256); entries = entries; manager = x.manager; synchronization = x.synchronization; name = x.name; flags = number (x.flags % 256) (x.flags / 256) })) (counted_again IsBytes entry_at entry_bytes entry_reader x.entries rest)
    ∙ ap (λ (p : Mapping). Item p rest) (pdo_numbers x)

pub pdo_front : IsFront IsBytes pdo_at (λ cells p rest. cells ≡ pdo_bytes p ++ rest) (λ rest. length rest < 8)
pdo_front = record { ended = pdo_ended; at_end = pdo_at_end; takes = pdo_takes; again = pdo_again }

-- ---- FMMUs

pub units_again : (bytes : List ℕ) → unit_bytes (map (λ byte. record { byte = byte }) bytes) ≡ bytes
units_again [] = refl
units_again (byte ∷ bytes) = ap (λ (rest : List ℕ). byte ∷ rest) (units_again bytes)

-- ---- what is read is what the grammar relates

pub managers_are : (bytes : List ℕ) (managers : List Manager) → IsBytes bytes → items_of manager_at bytes ≡ Ok managers → AreManagers bytes managers
managers_are bytes managers fits e = items_are IsBytes manager_at (λ cells m rest. cells ≡ manager_bytes m ++ rest) (λ rest. length rest < 8) manager_front bytes managers fits e

pub managers_again : (bytes : List ℕ) (managers : List Manager) → AreManagers bytes managers → items_of manager_at bytes ≡ Ok managers
managers_again bytes managers h = items_again IsBytes manager_at (λ cells m rest. cells ≡ manager_bytes m ++ rest) (λ rest. length rest < 8) manager_front manager_shrinks bytes managers h

pub pdos_are : (bytes : List ℕ) (pdos : List Mapping) → IsBytes bytes → items_of pdo_at bytes ≡ Ok pdos → ArePdos bytes pdos
pdos_are bytes pdos fits e = items_are IsBytes pdo_at (λ cells p rest. cells ≡ pdo_bytes p ++ rest) (λ rest. length rest < 8) pdo_front bytes pdos fits e

pub pdos_again : (bytes : List ℕ) (pdos : List Mapping) → ArePdos bytes pdos → items_of pdo_at bytes ≡ Ok pdos
pdos_again bytes pdos h = items_again IsBytes pdo_at (λ cells p rest. cells ≡ pdo_bytes p ++ rest) (λ rest. length rest < 8) pdo_front pdo_shrinks bytes pdos h

-- the words before a PDO's entries
pub head_is : (p : Mapping) (counts names : ℕ) → bytes_of (counts ∷ []) ≡ length p.entries ∷ p.manager ∷ [] → bytes_of (names ∷ []) ≡ p.synchronization ∷ p.name ∷ []
    → bytes_of (p.index ∷ counts ∷ names ∷ p.flags ∷ []) ≡ head_bytes p
head_is p counts names e f =
    ap (λ (bytes : List ℕ). low_first p.index ++ bytes ++ bytes_of (names ∷ p.flags ∷ [])) e ∙ ap (λ (bytes : List ℕ). low_first p.index ++ (length p.entries ∷ p.manager ∷ []) ++ bytes ++ low_first p.flags) f
