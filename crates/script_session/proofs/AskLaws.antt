-- Commands that are submitted one by one.
use Rattle.std.proofs.Common.{◌≡◌, ℕ, zero, suc, ◌<◌, ◌≤◌, List, [], ◌∷◌, ◌++◌, length, refl, sym, ◌∙◌, ap, subst}
use Rattle.std.proofs.Common.{arith, inl, inr, Option, Some, None, option_to_list}
use Rattle.std.proofs.lemmas.List.{append-nil, length-append, map-append}
use Rattle.std.proofs.lemmas.Bool.{cases_lt}
use Rattle.std.proofs.lemmas.Option.{slice_get_within, get_or_from_slice_get}
use Rattle.std.specs.Prelude.{slice_get, All}
use Rattle.sii_edit.specs.declared.command.Command.{Command}
use Rattle.desk_book.specs.Numbered.{Numbered}
use Rattle.desk_book.specs.Serving.{ShareCounts}
use Rattle.desk_book.specs.Closing.{StandsAt}
use Rattle.station_line.specs.declared.answered.Answered.{Answered}
use Rattle.station_line.specs.Rounds.{AreAmong}
use Rattle.station_line.proofs.RoundSubmitting.{among-then}
use Rattle.script_session.specs.Asking.{commands_of, AreInOrder, Asks, AsksAll}

one-more : {A : Type 0} {P : Type 0} (xs : List A) (x : A) → xs ++ x ∷ [] ≡ [] → P
one-more xs x is = let none = ap length is in absurd (omega (arith, none, length-append xs (x ∷ [])))

-- no command was submitted yet
pub asks-none : (answered : Answered) (counts : ShareCounts) → AsksAll [] answered answered counts counts []
asks-none answered counts = record { among = refl; all = λ done. (done, refl); counted = omega arith; none = λ is. refl }

asks-accepted : (first : List Command) (command : Command) (before answered after : Answered) (had mid has : ShareCounts) (tickets : List Numbered) (ticket : Numbered) → AsksAll first before answered had mid tickets → Asks command answered after mid has (Some ticket)
    → AsksAll (first ++ command ∷ []) before after had has (tickets ++ ticket ∷ [])
asks-accepted first command before answered after had mid has tickets ticket all one =
    let more : commands_of (tickets ++ ticket ∷ []) ≡ commands_of tickets ++ command ∷ [] = map-append (λ (o : Numbered). o.command) tickets (ticket ∷ []) ∙ ap (λ (c : Command). commands_of tickets ++ c ∷ []) one.0 in
    record {
      among = subst (λ (l : List Command). AreAmong l (first ++ command ∷ [])) (sym more) (among-then (commands_of tickets) (command ∷ []) first (command ∷ []) all.among (inl ([], refl, refl)));
      all = λ done. let x = all.all (sym one.1 ∙ done) in (x.0, more ∙ ap (λ (l : List Command). l ++ command ∷ []) x.1);
      counted = let a = one.2 in let b = all.counted in let c = length-append tickets (ticket ∷ []) in omega (arith, a, b, c);
      none = one-more first command;
    }

asks-refused : (first : List Command) (command : Command) (before answered after : Answered) (had mid has : ShareCounts) (tickets : List Numbered) → AsksAll first before answered had mid tickets → Asks command answered after mid has None
    → AsksAll (first ++ command ∷ []) before after had has tickets
asks-refused first command before answered after had mid has tickets all one = record {
  among = subst (λ (l : List Command). AreAmong l (first ++ command ∷ [])) (append-nil (commands_of tickets)) (among-then (commands_of tickets) [] first (command ∷ []) all.among (inr refl));
  all = λ done. absurd (one.0 done);
  counted = let a = one.1 in let b = all.counted in omega (arith, a, b);
  none = one-more first command;
}

asks-one : (first : List Command) (command : Command) (before answered after : Answered) (had mid has : ShareCounts) (tickets : List Numbered) (asked : Option Numbered) → AsksAll first before answered had mid tickets → Asks command answered after mid has asked
    → AsksAll (first ++ command ∷ []) before after had has (tickets ++ option_to_list asked)
asks-one first command before answered after had mid has tickets (Some ticket) all one = asks-accepted first command before answered after had mid has tickets ticket all one
asks-one first command before answered after had mid has tickets None all one =
    subst (λ (l : List Numbered). AsksAll (first ++ command ∷ []) before after had has l) (sym (append-nil tickets)) (asks-refused first command before answered after had mid has tickets all one)

-- the next of the commands was submitted
pub asks-next : (first : List Command) (command : Command) (before answered after : Answered) (had mid has : ShareCounts) (tickets kept : List Numbered) (asked : Option Numbered)
    → AsksAll first before answered had mid tickets → Asks command answered after mid has asked → kept ≡ tickets ++ option_to_list asked → AsksAll (first ++ command ∷ []) before after had has kept
asks-next first command before answered after had mid has tickets kept asked all one keeps =
    subst (λ (l : List Numbered). AsksAll (first ++ command ∷ []) before after had has l) (sym keeps) (asks-one first command before answered after had mid has tickets asked all one)

-- ---- each number is its place

-- an item of a list with one more item is an item of the list, or the last one
pub at-last : {A : Type 0} (xs : List A) (x y : A) (place : ℕ) → slice_get (xs ++ x ∷ []) place ≡ Some y → length xs ≤ place → (place ≡ length xs) × (y ≡ x)
at-last [] x y zero at long = (refl, cc)
at-last [] x y (suc n) at long = absurd cc
at-last (z ∷ xs) x y zero at long = absurd (omega (arith, long))
at-last (z ∷ xs) x y (suc n) at long = let rest = at-last xs x y n at (omega (arith, long)) in (ap suc rest.0, rest.1)

pub at-before : {A : Type 0} (xs : List A) (x : A) (place : ℕ) → place < length xs → slice_get (xs ++ x ∷ []) place ≡ slice_get xs place
at-before [] x place below = absurd (omega (arith, below))
at-before (z ∷ xs) x zero below = refl
at-before (z ∷ xs) x (suc n) below = at-before xs x n (omega (arith, below))

pub in-order-more : (numbered : List Numbered) (one : Numbered) → AreInOrder numbered → one.number ≡ length numbered → AreInOrder (numbered ++ one ∷ [])
in-order-more numbered one all is place other at =
    elim (cases_lt place (length numbered)) [
      | inl low ↦ all place other (sym (at-before numbered one place low) ∙ at)
      | inr high ↦ let last = at-last numbered one other place at high in ap (λ (n : Numbered). n.number) last.1 ∙ is ∙ sym last.0
    ]

pub received-more : (receipts tickets : List Numbered) (receipt ticket : Numbered) (more : List Numbered) → receipts ≡ tickets → receipt ≡ ticket → more ≡ receipts ++ receipt ∷ [] → more ≡ tickets ++ ticket ∷ []
received-more receipts tickets receipt ticket more same is pushed = pushed ∙ ap (λ (l : List Numbered). l ++ receipt ∷ []) same ∙ ap (λ (n : Numbered). tickets ++ n ∷ []) is

-- ---- what is handed in

-- lists of the same length with the same command at each place are equal
same-commands : (commands : List Command) (receipts : List Numbered) → length receipts ≡ length commands → ((place : ℕ) (one : Numbered) → slice_get receipts place ≡ Some one → slice_get commands place ≡ Some one.command) → commands ≡ commands_of receipts
same-commands [] [] many each = refl
same-commands [] (one ∷ receipts) many each = absurd (omega (arith, many))
same-commands (command ∷ commands) [] many each = absurd (omega (arith, many))
same-commands (command ∷ commands) (one ∷ receipts) many each =
    let first : Some command ≡ Some one.command = each zero one refl in
    let here : command ≡ one.command = cc in
    ap (λ (c : Command). c ∷ commands) here
    ∙ ap (λ (l : List Command). one.command ∷ l) (same-commands commands receipts (omega (arith, many)) (λ place other at. each (suc place) other at))

-- receipts in order, one for each command, are the receipts of these commands
pub all-received : (commands : List Command) (receipts : List Numbered) (durable : ℕ) → length receipts ≡ length commands → AreInOrder receipts → All (StandsAt commands durable) receipts → commands ≡ commands_of receipts
all-received commands receipts durable many in_order each = same-commands commands receipts many (λ place one at.
    let stands : StandsAt commands durable one = subst (λ (n : Numbered). StandsAt commands durable n) (get_or_from_slice_get receipts place one one at) (each place one (slice_get_within receipts place one at)) in
    subst (λ (n : ℕ). slice_get commands n ≡ Some one.command) (in_order place one at) stands.command)
