use Rattle.std.proofs.Common.{refl, sym, subst}
use Rattle.std.specs.Prelude.{IsTrue}
use Rattle.std.proofs.lemmas.List.Elements.{All-map}
use Rattle.sii_cats.specs.Pdos.{ArePdos, IsWritable, view, views}
use Rattle.sii_cats.proofs.RoundTrip.{pdos_back}
use Rattle.sii_cats.proofs.Writable.{All-from_map}
use Rattle.sii_cats.proofs.mappings.write_pdos.Goals as goal

pub returns-then-not-are_writable-clause-written : goal.returns-then-not-are_writable-clause-written
returns-then-not-are_writable-clause-written c = (
  refl,
  λ all.
      let yes : IsTrue c.are_writable.result = c.are_writable.ensures.1 (All-from_map IsWritable view c.args.pdos.now all) in cc,
)

pub returns-clause-written : goal.returns-clause-written
returns-clause-written c = (All-map IsWritable view c.args.pdos.now (c.are_writable.ensures.0 c.if-not-are_writable.false), c.in_ok-write_all.ensures)

pub returns-clause-read_back : goal.returns-clause-read_back
returns-clause-read_back c = subst (λ bytes. ArePdos bytes (views c.args.pdos.now)) (sym c.in_ok-write_all.ensures) (pdos_back (views c.args.pdos.now))
