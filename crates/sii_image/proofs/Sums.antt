-- The bits of PDOs, added up for each sync manager.
use Rattle.std.specs.Prelude.{filter, nat_lt}
use Rattle.std.specs.List.{enumerate_from}
use Rattle.std.proofs.Common.{◌≡◌, ℕ, ◌+◌, ◌*◌, ◌-◌, ◌<◌, ◌≤◌, Bool, true, false, cond, eqb, List, [], ◌∷◌, ◌++◌, Result, Ok, Err, length, map, set, get_or, replicate, refl, sym, ap, subst, ◌∙◌, arith, length-set, get_or-set_other}
use Rattle.std.proofs.lemmas.Bool.{eqb-true, eqb-false}
use Rattle.sii_cats.specs.Bytes.{bytes_of}
use Rattle.sii_cats.specs.steps.Items.{items_of}
use Rattle.sii_cats.specs.steps.Items.Front.{Item}
use Rattle.sii_cats.specs.steps.Pdos.{pdo_at, pdos_of}
use Rattle.sii_cats.proofs.Fields.{pdo_shrinks}
use Rattle.sii_cats.proofs.Items.{goes_on, with_front}
use Rattle.std.proofs.lemmas.List.{set_past, get_or-set_same, get_or-replicate, length-replicate}
use Rattle.std.proofs.lemmas.List.Sums.{sum_by-cons}
use Rattle.sii_cats.specs.Pdos.{Mapping}
use Rattle.sii_cats.specs.declared.managers.Manager.{Manager}
use Rattle.sii_image.specs.declared.rows.Row.{Row}
use Rattle.sii_image.specs.ProcessData.{Description, bits_for, described, manager_bits, pdo_bits, row, rows_of, rows_read}
use Rattle.sii_image.specs.steps.Sums.{AreWithin, Summed, manager_sum, row_summed, rows_summed, summed, summed_read, sums_of, with_pdo, with_pdos}

-- the sums of more PDOs
pub with_pdos-append : (sums : List ℕ) (xs ys : List Mapping) → with_pdos sums (xs ++ ys) ≡ with_pdos (with_pdos sums xs) ys
with_pdos-append sums [] ys = refl
with_pdos-append sums (x ∷ xs) ys = with_pdos-append (with_pdo sums x) xs ys

pub length-with_pdos : (sums : List ℕ) (pdos : List Mapping) → length (with_pdos sums pdos) ≡ length sums
length-with_pdos sums [] = refl
length-with_pdos sums (pdo ∷ pdos) = length-with_pdos (with_pdo sums pdo) pdos ∙ length-set sums pdo.manager (get_or sums pdo.manager 0 + pdo_bits pdo)

-- ---- what a sum is

one_for : (pdo : Mapping) (pdos : List Mapping) (number : ℕ) (b : Bool) → eqb pdo.manager number ≡ b → bits_for (pdo ∷ pdos) number ≡ cond b (pdo_bits pdo) 0 + bits_for pdos number
one_for pdo pdos number true e =
    let others : List Mapping = filter (λ p. eqb p.manager number) pdos in
    rw e (sum_by-cons pdo_bits pdo others)
one_for pdo pdos number false e = rw e (omega arith)

one_at : (sums : List ℕ) (number bits n : ℕ) (b : Bool) → eqb number n ≡ b → n < length sums → get_or (set sums number (get_or sums number 0 + bits)) n 0 ≡ get_or sums n 0 + cond b bits 0
one_at sums number bits n true e h =
    let same : number ≡ n = eqb-true number n e in
    rw same (get_or-set_same sums n (get_or sums n 0 + bits) 0 h)
one_at sums number bits n false e h =
    let other = eqb-false number n e in
    let kept : get_or (set sums number (get_or sums number 0 + bits)) n 0 ≡ get_or sums n 0 =
    get_or-set_other sums number n (get_or sums number 0 + bits) 0 (λ same. other (sym same)) in
    omega (arith, kept)

sum_at : (sums : List ℕ) (pdos : List Mapping) (n : ℕ) → n < length sums → get_or (with_pdos sums pdos) n 0 ≡ get_or sums n 0 + bits_for pdos n
sum_at sums [] n h = omega arith
sum_at sums (pdo ∷ pdos) n h =
    let len = length-set sums pdo.manager (get_or sums pdo.manager 0 + pdo_bits pdo) in
    let rest = sum_at (with_pdo sums pdo) pdos n (omega (arith, h, len)) in
    let one = one_at sums pdo.manager (pdo_bits pdo) n (eqb pdo.manager n) refl h in
    let more = one_for pdo pdos n (eqb pdo.manager n) refl in
    omega (arith, rest, one, more)

bits_at : (pdos : List Mapping) (n : ℕ) → n < 16 → get_or (sums_of pdos) n 0 ≡ bits_for pdos n
bits_at pdos n h =
    let none = get_or-replicate {A = ℕ} 16 n 0 0 h in
    omega (arith, sum_at (replicate 16 0) pdos n (omega (arith, h, length-replicate {A = ℕ} 16 0)), none)

-- ---- the rows

same_bits : (d : Description) (n : ℕ) (manager : Manager) → n < 16 → manager_sum (summed d) n manager ≡ manager_bits d n manager
same_bits d n manager h = rw (bits_at d.outputs n h, bits_at d.inputs n h) refl

same_rows : (d : Description) (n : ℕ) (managers : List Manager) → n + length managers ≤ 16 → map (row_summed (summed d)) (enumerate_from n managers) ≡ map (row d) (enumerate_from n managers)
same_rows d n [] h = refl
same_rows d n (manager ∷ managers) h =
    ap (λ (bits : ℕ). record { manager = n; output = eqb manager.kind 3; bits = bits; start = manager.start; control = manager.control } ∷ map (row_summed (summed d)) (enumerate_from (n + 1) managers))
    (same_bits d n manager (omega (arith, h)))
    ∙ ap (λ (rows : List Row). row d (n, manager) ∷ rows) (same_rows d (n + 1) managers (omega (arith, h)))

-- the rows made of the sums are those of the description
rows_kept : (read : Result Description (List ℕ)) (s : Summed) → summed_read read ≡ Ok s → length s.managers ≤ 16 → rows_summed s ≡ rows_read read
rows_kept (Ok d) s e few =
    let same : summed d ≡ s = cc in
    let short : length d.managers ≤ 16 = subst (λ (x : Summed). length x.managers ≤ 16) (sym same) few in
    ap rows_summed (sym same) ∙ ap (λ (rows : List Row). filter (λ r. nat_lt 0 r.bits) rows) (same_rows d 0 d.managers (omega (arith, short)))
rows_kept (Err words) s e few = absurd cc

pub rows_are : (words : List ℕ) (s : Summed) → summed_read (described words) ≡ Ok s → length s.managers ≤ 16 → rows_summed s ≡ rows_of words
unfolding rows_of
rows_are words s e few = rows_kept (described words) s e few

-- ---- the PDOs of a content, added one after the other

-- The PDOs before the rest of the content are added to the old sums.
pub record Adding (content old sums rest : List ℕ) : Type 0 where
  pub read : List Mapping
  pub joined : with_front read (items_of pdo_at (bytes_of rest)) ≡ pdos_of content
  pub sums_are : sums ≡ with_pdos old read
  pub most : (m : ℕ) → AreWithin old m → AreWithin sums (m + 64 * (length content - length rest))
  pub left : length rest ≤ length content

at_most_bits : (b : Bool) (bits : ℕ) → cond b bits 0 ≤ bits
at_most_bits true bits = omega arith
at_most_bits false bits = omega arith

-- one more PDO
pub adds_more : (content old sums new rest after : List ℕ) (pdo : Mapping) (words : ℕ) → Adding content old sums rest → pdo_at (bytes_of rest) ≡ Item pdo (bytes_of after)
    → pdo_bits pdo ≤ 64 * words → 4 + words + length after ≡ length rest → new ≡ with_pdo sums pdo → Adding content old new after
adds_more content old sums new rest after pdo words s front few size is =
    record {
      read = s.read ++ pdo ∷ [];
      joined = goes_on pdo_at pdo_shrinks s.read (bytes_of rest) pdo (bytes_of after) (pdos_of content) front s.joined;
      sums_are = is ∙ ap (λ (x : List ℕ). with_pdo x pdo) s.sums_are ∙ sym (with_pdos-append old s.read (pdo ∷ []));
      most = λ m h n lt.
          let there : n < length sums = omega (arith, lt, ap length is, length-set sums pdo.manager (get_or sums pdo.manager 0 + pdo_bits pdo)) in
          let at : get_or new n 0 ≡ get_or sums n 0 + cond (eqb pdo.manager n) (pdo_bits pdo) 0 =
          ap (λ (x : List ℕ). get_or x n 0) is ∙ one_at sums pdo.manager (pdo_bits pdo) n (eqb pdo.manager n) refl there in
          omega (arith, at, few, size, s.left, s.most m h n there, at_most_bits (eqb pdo.manager n) (pdo_bits pdo));
      left = omega (arith, s.left, size);
    }

-- one more PDO, of a sync manager that has no sum
pub adds_none : (content old sums rest after : List ℕ) (pdo : Mapping) → Adding content old sums rest → pdo_at (bytes_of rest) ≡ Item pdo (bytes_of after)
    → length after ≤ length rest → length sums ≤ pdo.manager → Adding content old sums after
adds_none content old sums rest after pdo s front size past =
    let same : sums ≡ with_pdo sums pdo = sym (set_past sums pdo.manager (get_or sums pdo.manager 0 + pdo_bits pdo) past) in
    record {
      read = s.read ++ pdo ∷ [];
      joined = goes_on pdo_at pdo_shrinks s.read (bytes_of rest) pdo (bytes_of after) (pdos_of content) front s.joined;
      sums_are = same ∙ ap (λ (x : List ℕ). with_pdo x pdo) s.sums_are ∙ sym (with_pdos-append old s.read (pdo ∷ []));
      most = λ m h n lt. omega (arith, size, s.left, s.most m h n lt);
      left = omega (arith, s.left, size);
    }
