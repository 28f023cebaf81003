use Rattle.std.proofs.Common.{◌≡◌}
use Rattle.std.specs.Prelude.{None}
use Rattle.gh_types.specs.Tables.{place_in}
use Rattle.gh_types.proofs.TableLemmas.{table_more, table_same, none_of}
use Rattle.gh_types.proofs.names.Names.add.Goals as goal

pub returns-clause-names : goal.returns-clause-names
returns-clause-names c =
    λ names p h.
    let none : place_in c.args.self.now.places c.args.name.now ≡ None = none_of _ (cc) in
    table_more names c.args.name.now c.args.place c.args.self.now.places c.insert.new.self p none
    c.in_ok-insert.ensures.updates h

pub returns-then-contains_key-clause-names : goal.returns-then-contains_key-clause-names
returns-then-contains_key-clause-names c =
    λ names p h. table_same names c.args.name.now c.args.self.now.places (cc) h
