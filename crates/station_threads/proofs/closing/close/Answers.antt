use Rattle.std.proofs.Common.{◌≡◌, ◌++◌, ◌∷◌, [], ◌∙◌, ℕ, List, length, take, drop, ap, refl, subst, sym, arith}
use Rattle.station_threads.proofs.closing.close.Goals as goal

-- Each is given, also those that a check finds: it would search long for them.

pub returns-in-Ok : goal.returns-in-Ok
returns-in-Ok g c =
    let validated = c.in-Ok.ensures in
    record {
      handed_in = rw (sym c.as_mut_slice.ensures.value, sym c.as_slice.ensures.value) validated.handed_in;
      served = validated.served;
      contents = validated.contents;
      left = validated.left;
      turns = validated.turns;
      ends = refl;
      handed_back = tt;
      all_shares = tt;
      mismatch = tt;
      unserved = tt;
      kept = tt;
      turns_kept = tt;
    }

-- the shares are still those that were handed in
still : {A : Type 0} (items : List A) → take (length items) (items ++ drop (length items) items) ≡ items
still [] = refl
still (x ∷ items) = ap (λ (l : List _). x ∷ l) (still items)

put-back : {A : Type 0} (long : ℕ) (new items : List A) → new ≡ items → long ≡ length items → take long (new ++ drop (length new) items) ≡ items
put-back {A} long new items same is =
    subst (λ (n : ℕ). take n (new ++ drop (length new) items) ≡ items) (sym is) (subst (λ (l : List A). take (length items) (l ++ drop (length l) items) ≡ items) (sym same) (still items))

pub returns-in-Err-clause-handed_back : goal.returns-in-Err-clause-handed_back
returns-in-Err-clause-handed_back g c =
    let shares = c.args.shares in (
      put-back shares.len c.validate.new.shares shares.items (c.validate.ensures.shares ∙ c.as_mut_slice.ensures.value) (omega (arith, shares.ok.0)),
      refl,
      refl,
    )

pub returns-in-Err-clause-all_shares : goal.returns-in-Err-clause-all_shares
returns-in-Err-clause-all_shares g c = rw (c.validate.ensures.same, sym c.as_mut_slice.ensures.value) c.validate.ensures.all_shares

pub returns-in-Err-clause-mismatch : goal.returns-in-Err-clause-mismatch
returns-in-Err-clause-mismatch g c = rw (sym c.as_mut_slice.ensures.value, sym c.as_slice.ensures.value) c.in-Err.ensures.mismatch

pub returns-in-Err-clause-unserved : goal.returns-in-Err-clause-unserved
returns-in-Err-clause-unserved g c = c.in-Err.ensures.unserved

pub returns-in-Err-clause-kept : goal.returns-in-Err-clause-kept
returns-in-Err-clause-kept g c = c.in-Err.ensures.kept

pub returns-in-Err-clause-turns_kept : goal.returns-in-Err-clause-turns_kept
returns-in-Err-clause-turns_kept g c = c.in-Err.ensures.turns_kept
