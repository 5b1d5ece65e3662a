-- Steps of a station in a row.
use Rattle.std.proofs.Common.{◌≡◌, ℕ, ◌+◌, ◌<◌, ◌≤◌, List, [], ◌∷◌, ◌++◌, length, get_or, take, refl, sym, ◌∙◌, ap, subst, arith, append_assoc}
use Rattle.std.proofs.lemmas.List.{append-nil, take_all, take_more}
use Rattle.sii_edit.specs.declared.command.Command.{Command}
use Rattle.station_alone.specs.declared.choice.Choice.{Choice}
use Rattle.station_alone.specs.declared.choice.Answer.{Answer}
use Rattle.station_alone.specs.Station.{Station}
use Rattle.station_alone.specs.Steps.{Steps, StepsInOrder, most_calls, most_calls_of}
use Rattle.site_core.specs.Passes.{LeavesOnly}
use Rattle.site_journal.specs.Running.{with_commands}
use Rattle.book_model.specs.Machine.{Machine}
use Rattle.book_model.specs.Keeping.{IsOfBook}
use Rattle.station_alone.specs.Keeping.{GoesOn, Keeps, KeepsInOrder, KeptFor, KeptInOrder, accepted_by, accepted_in}
use Rattle.station_alone.proofs.KeepLaws.{goes-none, goes-then, keeps-then, keeps-while-still, of-later}

pub steps-then : (choices more : List Choice) (answers others : List Answer) (a b c : Station) → StepsInOrder choices a answers b → StepsInOrder more b others c → StepsInOrder (choices ++ more) a (answers ++ others) c
steps-then [] more [] others a b c first second = subst (λ (s : Station). StepsInOrder more s others c) first second
steps-then [] more (reported ∷ answers) others a b c first second = absurd first
steps-then (choice ∷ choices) more [] others a b c first second = absurd first
steps-then (choice ∷ choices) more (reported ∷ answers) others a b c first second = (first.0, first.1, steps-then choices more answers others first.0 b c first.2 second)

accepted-push : (choices : List Choice) (answers : List Answer) (choice : Choice) (answer : Answer) (a b : Station) → StepsInOrder choices a answers b
    → accepted_in (choices ++ choice ∷ []) (answers ++ answer ∷ []) ≡ accepted_in choices answers ++ accepted_by choice answer
accepted-push [] [] choice answer a b steps = append-nil (accepted_by choice answer)
accepted-push [] (other ∷ answers) choice answer a b steps = absurd steps
accepted-push (other ∷ choices) [] choice answer a b steps = absurd steps
accepted-push (other ∷ choices) (reported ∷ answers) choice answer a b steps =
    ap (λ (l : List Command). accepted_by other reported ++ l) (accepted-push choices answers choice answer steps.0 b steps.2)
    ∙ sym (append_assoc (accepted_by other reported) (accepted_in choices answers) (accepted_by choice answer))

calls-push : (choices : List Choice) (choice : Choice) → most_calls_of (choices ++ choice ∷ []) ≡ most_calls_of choices + most_calls choice
calls-push [] choice = omega arith
calls-push (other ∷ choices) choice = let e = calls-push choices choice in omega (arith, e)

-- each step by itself keeps what is kept
kept-push : (m : Machine) (choices : List Choice) (answers : List Answer) (choice : Choice) (answer : Answer) (a b c : Station) → IsOfBook a.book m → LeavesOnly (KeptFor m) a.seen.state → KeptInOrder m choices a answers b
    → Steps choice b answer c → GoesOn (accepted_by choice answer) (most_calls choice) b c → Keeps (accepted_by choice answer) b c → KeptInOrder m (choices ++ choice ∷ []) a (answers ++ answer ∷ []) c
kept-push m [] [] choice answer a b c of kept first step goes keeps = (
  c,
  record {
    steps = subst (λ (s : Station). Steps choice s answer c) first step;
    goes_on = subst (λ (s : Station). GoesOn (accepted_by choice answer) (most_calls choice) s c) first goes;
    keeps = subst (λ (s : Station). Keeps (accepted_by choice answer) s c) first keeps m of kept;
  },
  refl,
)
kept-push m [] (other ∷ answers) choice answer a b c of kept first step goes keeps = absurd first
kept-push m (other ∷ choices) [] choice answer a b c of kept first step goes keeps = absurd first
kept-push m (other ∷ choices) (reported ∷ answers) choice answer a b c of kept first step goes keeps =
    let mid = first.0 in
    let one = first.1 in (
      mid,
      one,
      kept-push (with_commands m (accepted_by other reported) mid.book.durable) choices answers choice answer mid b c (of-later m (accepted_by other reported) (most_calls other) a mid of one.goes_on) one.keeps.at_last
          first.2 step goes keeps,
    )

-- what a run of steps leaves
pub record Ran (choices : List Choice) (answers : List Answer) (old new : Station) : Type 0 where
  pub steps : StepsInOrder choices old answers new
  pub goes_on : GoesOn (accepted_in choices answers) (most_calls_of choices) old new
  pub keeps : Keeps (accepted_in choices answers) old new
  pub in_order : KeepsInOrder choices old answers new

pub ran-push : (choices : List Choice) (answers : List Answer) (choice : Choice) (answer : Answer) (a b c : Station) → Ran choices answers a b → Steps choice b answer c
    → GoesOn (accepted_by choice answer) (most_calls choice) b c → Keeps (accepted_by choice answer) b c → Ran (choices ++ choice ∷ []) (answers ++ answer ∷ []) a c
ran-push choices answers choice answer a b c ran step goes keeps =
    let accepted = accepted-push choices answers choice answer a b ran.steps in
    record {
      steps = steps-then choices (choice ∷ []) answers (answer ∷ []) a b c ran.steps (c, step, refl);
      goes_on = subst (λ (n : ℕ). GoesOn (accepted_in (choices ++ choice ∷ []) (answers ++ answer ∷ [])) n a c) (sym (calls-push choices choice))
          (subst (λ (l : List Command). GoesOn l (most_calls_of choices + most_calls choice) a c) (sym accepted)
          (goes-then (accepted_in choices answers) (accepted_by choice answer) (most_calls_of choices) (most_calls choice) a b c ran.goes_on goes));
      keeps = subst (λ (l : List Command). Keeps l a c) (sym accepted) (keeps-then (accepted_in choices answers) (accepted_by choice answer) (most_calls_of choices) a b c ran.goes_on ran.keeps keeps);
      in_order = λ m of kept. kept-push m choices answers choice answer a b c of kept (ran.in_order m of kept) step goes keeps;
    }

pub ran-none : (s : Station) → Ran [] [] s s
ran-none s = record {
  steps = refl;
  goes_on = goes-none 0 s;
  keeps = keeps-while-still s s refl refl;
  in_order = λ m of kept. refl;
}

-- all of them were made
pub ran-entire : (choices : List Choice) (count : ℕ) (answers : List Answer) (old new : Station) → length choices ≤ count → Ran (take count choices) answers old new → Ran choices answers old new
ran-entire choices count answers old new all ran = subst (λ (l : List Choice). Ran l answers old new) (take_all count choices all) ran

-- the next of the choices was made
pub ran-more : (choices : List Choice) (i : ℕ) (choice : Choice) (answers later : List Answer) (answer : Answer) (a b c : Station) → i < length choices → choice ≡ get_or choices i choice → later ≡ answers ++ answer ∷ []
    → Ran (take i choices) answers a b → Steps choice b answer c → GoesOn (accepted_by choice answer) (most_calls choice) b c → Keeps (accepted_by choice answer) b c → Ran (take (i + 1) choices) later a c
ran-more choices i choice answers later answer a b c within is pushed ran step goes keeps =
    let more : take (i + 1) choices ≡ take i choices ++ choice ∷ [] = take_more choices i choice within ∙ ap (λ (x : Choice). take i choices ++ x ∷ []) (sym is) in
    subst (λ (l : List Choice). Ran l later a c) (sym more)
    (subst (λ (l : List Answer). Ran (take i choices ++ choice ∷ []) l a c) (sym pushed) (ran-push (take i choices) answers choice answer a b c ran step goes keeps))
