-- What is kept of a station, with no command accepted, and over runs in a row.
use Rattle.std.proofs.Common.{◌≡◌, ℕ, suc, ◌+◌, ◌≤◌, List, [], ◌∷◌, ◌++◌, length, take, refl, sym, ◌∙◌, ap, subst, arith, zero-add, length-append, append_assoc}
use Rattle.std.proofs.lemmas.List.{append-nil}
use Rattle.sii_edit.specs.declared.command.Command.{Command}
use Rattle.jrn_format.specs.declared.journal.Entry.{Entry}
use Rattle.site_core.specs.State.{State, Pair, Seen, clock}
use Rattle.site_core.specs.Passes.{LeavesOnly}
use Rattle.site_core.proofs.Runs.{Passes-none, Passes-stays}
use Rattle.book_model.specs.Book.{base_of}
use Rattle.book_model.specs.Machine.{Machine}
use Rattle.book_model.specs.Keeping.{IsOfBook}
use Rattle.site_journal.specs.Running.{KeepsAll, KeepsWith, KeptWith, with_commands}
use Rattle.site_journal.proofs.GoLaws.{stays-weaker, stays-then, kept-less, keeps-all_with, keeps-more}
use Rattle.station_alone.specs.Station.{Station}
use Rattle.station_alone.specs.Keeping.{GoesOn, KeptFor, KeepsFor, Keeps}

-- ---- the session goes on

pub goes-none : (most : ℕ) (s : Station) → GoesOn [] most s s
goes-none most s = record { line = refl; words = refl; found = refl; accepted = sym (append-nil s.book.accepted); durable = omega arith; within = omega arith }

-- with another bound of the device calls
pub goes-within : (commands : List Command) (few most : ℕ) (old new : Station) → GoesOn commands few old new → clock new.seen ≤ clock old.seen + most → GoesOn commands most old new
goes-within commands few most old new goes within = record { line = goes.line; words = goes.words; found = goes.found; accepted = goes.accepted; durable = goes.durable; within = within }

pub goes-then : (first second : List Command) (m n : ℕ) (a b c : Station) → GoesOn first m a b → GoesOn second n b c → GoesOn (first ++ second) (m + n) a c
goes-then first second m n a b c one two = record {
  line = two.line ∙ one.line;
  words = two.words ∙ one.words;
  found = two.found ∙ one.found;
  accepted = two.accepted ∙ ap (λ (l : List Command). l ++ second) one.accepted ∙ append_assoc a.book.accepted first second;
  durable = let x = one.durable in let y = two.durable in omega (arith, x, y);
  within = let x = one.within in let y = two.within in omega (arith, x, y);
}

-- ---- no command is accepted

with-none : (m : Machine) (count : ℕ) → with_commands m [] count ≡ record m { acknowledged = count }
with-none m count = ap (λ (l : List Command). record m { accepted = l; acknowledged = count }) (append-nil m.accepted)

pub keeps-none : (m : Machine) (old new : Seen) → KeepsAll m old new → KeepsWith m [] old new
keeps-none m old new keeps =
    keeps-all_with m [] m.acknowledged old new (omega arith) (subst (λ (n : Machine). KeepsAll n old new) (sym (with-none m m.acknowledged)) keeps)

-- `count` commands are acknowledged already
pub acknowledged-so : (m : Machine) (count : ℕ) (state : State) → m.acknowledged ≡ count → LeavesOnly (KeptFor m) state → LeavesOnly (KeptFor (record m { acknowledged = count })) state
acknowledged-so m count state so kept = subst (λ (n : ℕ). LeavesOnly (KeptFor (record m { acknowledged = n })) state) so kept

pub keeps-for-none : (m : Machine) (old new : Station) → KeepsAll m old.seen new.seen → LeavesOnly (KeptFor (record m { acknowledged = new.book.durable })) new.seen.state → KeepsFor m [] old new
keeps-for-none m old new keeps last = record {
  on_the_way = keeps-none m old.seen new.seen keeps;
  at_last = subst (λ (n : Machine). LeavesOnly (KeptFor n) new.seen.state) (sym (with-none m new.book.durable)) last;
}

-- nothing is done with the site
pub still : (m : Machine) (seen : Seen) → LeavesOnly (KeptFor m) seen.state → KeepsAll m seen seen
still m seen kept = Passes-stays (KeptFor m) seen seen (Passes-none (LeavesOnly (KeptFor m)) seen kept)

pub keeps-while-still : (old new : Station) → new.seen ≡ old.seen → new.book.durable ≡ old.book.durable → Keeps [] old new
keeps-while-still old new seen durable m of kept =
    keeps-for-none m old new
    (subst (λ (s : Seen). KeepsAll m old.seen s) (sym seen) (still m old.seen kept))
    (acknowledged-so m new.book.durable new.seen.state (of.acknowledged ∙ sym durable) (subst (λ (s : Seen). LeavesOnly (KeptFor m) s.state) (sym seen) kept))

-- ---- one run after another

-- the book is that machine's, with the commands that were accepted
pub of-later : (m : Machine) (commands : List Command) (most : ℕ) (old new : Station) → IsOfBook old.book m → GoesOn commands most old new → IsOfBook new.book (with_commands m commands new.book.durable)
of-later m commands most old new of goes = record {
  base = of.base ∙ sym (ap (λ (w : List (List ℕ)). base_of (record new.book { words = w })) goes.words ∙ ap (λ (f : List Entry). base_of (record new.book { words = old.book.words; found = f })) goes.found);
  accepted = ap (λ (l : List Command). l ++ commands) of.accepted ∙ sym goes.accepted;
  acknowledged = refl;
}

take-after : (first second : List Command) (j : ℕ) → take (length first + j) (first ++ second) ≡ first ++ take j second
take-after [] second j = ap (λ (n : ℕ). take n second) (zero-add j)
take-after (c ∷ first) second j =
    let e : length (c ∷ first) + j ≡ suc (length first + j) = omega arith in
    ap (λ (n : ℕ). take n (c ∷ (first ++ second))) e ∙ ap (λ (l : List Command). c ∷ l) (take-after first second j)

-- what is kept with some of the later commands is kept with all earlier ones and these
kept-after : (m : Machine) (first second : List Command) (count : ℕ) (pair : Pair) → m.acknowledged ≤ count → KeptWith (with_commands m first count) second pair → KeptWith m (first ++ second) pair
kept-after m first second count pair few (j, le, kept) =
    let less = kept-less m ((m.accepted ++ first) ++ take j second) count pair few kept in
    let all : (m.accepted ++ first) ++ take j second ≡ m.accepted ++ take (length first + j) (first ++ second) =
    append_assoc m.accepted first (take j second) ∙ ap (λ (l : List Command). m.accepted ++ l) (sym (take-after first second j)) in
    (length first + j, omega (arith, le, length-append first second), subst (λ (l : List Command). KeptFor (record m { accepted = l }) pair) all less)

pub keeps-then : (first second : List Command) (most : ℕ) (a b c : Station) → GoesOn first most a b → Keeps first a b → Keeps second b c → Keeps (first ++ second) a c
keeps-then first second most a b c goes one two m of kept =
    let k = one m of kept in
    let mid = with_commands m first b.book.durable in
    let later = two mid (of-later m first most a b of goes) k.at_last in
    let few : m.acknowledged ≤ b.book.durable = omega (arith, of.acknowledged, goes.durable) in
    let weaker = stays-weaker (KeptWith mid second) (KeptWith m (first ++ second)) b.seen c.seen (λ pair. kept-after m first second b.book.durable pair few) later.on_the_way in
    record {
      on_the_way = stays-then (KeptWith m (first ++ second)) a.seen b.seen c.seen (keeps-more m first second a.seen b.seen k.on_the_way) weaker;
      at_last = subst (λ (l : List Command). LeavesOnly (KeptFor (record m { accepted = l; acknowledged = c.book.durable })) c.seen.state) (append_assoc m.accepted first second) later.at_last;
    }
