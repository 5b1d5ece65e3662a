-- A station that goes on, with some commands accepted.
use Rattle.std.proofs.Common.{ℕ, ◌+◌, List, [], ◌++◌, refl, sym, arith}
use Rattle.std.proofs.lemmas.List.{append-nil}
use Rattle.sii_edit.specs.declared.command.Command.{Command}
use Rattle.site_core.specs.Times.{Follows}
use Rattle.site_core.proofs.Times.{Follows-same, Follows-then}
use Rattle.station_alone.specs.Station.{Station}
use Rattle.station_alone.specs.Keeping.{GoesOn, Keeps}
use Rattle.station_alone.proofs.KeepLaws.{keeps-then, keeps-while-still, goes-then as goes-on-then}
use Rattle.station_line.specs.Rounds.{Goes}

pub goes-by : (commands : List Command) (most : ℕ) (old new : Station) → GoesOn commands most old new → Follows old.seen new.seen
    → Keeps commands old new → Goes commands old new
goes-by commands most old new on led keeps = record { most = most; on = on; led = led; keeps = keeps }

-- nothing is done
pub goes-none : (s : Station) → Goes [] s s
goes-none s = record {
  most = 0;
  on = record { line = refl; words = refl; found = refl; accepted = sym (append-nil s.book.accepted); durable = omega arith; within = omega arith };
  led = Follows-same s.seen;
  keeps = keeps-while-still s s refl refl;
}

pub goes-then : (first second : List Command) (a b c : Station) → Goes first a b → Goes second b c → Goes (first ++ second) a c
goes-then first second a b c one two = record {
  most = one.most + two.most;
  on = goes-on-then first second one.most two.most a b c one.on two.on;
  led = Follows-then a.seen b.seen c.seen one.led two.led;
  keeps = keeps-then first second one.most a b c one.on one.keeps two.keeps;
}

pub goes-still : (a b c : Station) → Goes [] a b → Goes [] b c → Goes [] a c
goes-still a b c one two = goes-then [] [] a b c one two
