-- The instances of the axiom rows.
use Rattle.std.specs.Prelude.{ℕ, ◌≡◌, ◌<◌, ◌-◌, List, [], ◌++◌, length, slice_get, map, take, replicate, All, Option}
use Rattle.std.specs.Prelude.{Some, None, option_map}
use Rattle.std.specs.List.{flat_map, range_with_len}
use Rattle.gh_base.specs.declared.atom.Term.{Term}
use Rattle.gh_base.specs.declared.atom.Lit.{Lit}
use Rattle.gh_base.specs.declared.sizes.Sizes.{Sizes}
use Rattle.gh_base.specs.Atoms.{AreInRange, term}
use Rattle.gh_inst.specs.declared.naming.InstanceName.{InstanceName}
use Rattle.gh_inst.specs.Schemas.{clause_over}
use Rattle.gh_inst.specs.Table.{AxiomRow, table, row_with}
use Rattle.gh_inst.specs.Tuples.{tuples}

-- the name of a row's instance at a tuple: terms past the tuple are term 0
abbrev pub name_of : ℕ → ℕ → List Term → InstanceName
name_of number version tuple =
    record {
      row = number;
      version = version;
      terms = tuple ++ replicate (4 - length tuple) (term 0);
      arity = length tuple;
    }

-- the instances of a row over n terms and some versions
abbrev pub row_instances : ℕ → ℕ → AxiomRow → List InstanceName
row_instances n versions r =
    flat_map (λ version. map (name_of r.number version) (tuples r.variables n)) (range_with_len 0 versions)

-- those in one version
abbrev pub row_in : Sizes → ℕ → AxiomRow → List InstanceName
row_in s version r = map (name_of r.number version) (tuples r.variables s.terms)

-- a name is at a place among the instances of a row
abbrev pub IsNameInRow : ℕ → ℕ → ℕ → ℕ → ℕ → InstanceName → Type 0
IsNameInRow number variables n versions place name =
    (r : AxiomRow) → r.number ≡ number → r.variables ≡ variables
    → slice_get (row_instances n versions r) place ≡ Some name

-- all instances: by row, then by version, then by tuple
abbrev pub instances : ℕ → ℕ → List InstanceName
instances n versions = flat_map (row_instances n versions) table

-- the terms of an instance, without those past its arity
abbrev pub tuple_of : InstanceName → List Term
tuple_of name = take name.arity name.terms

-- the clause of an instance of a row, empty where there is no row
abbrev pub clause_with : InstanceName → Option AxiomRow → List Lit
clause_with name None = []
clause_with name (Some r) = clause_over name.version (tuple_of name) r.lits

-- the clause of an instance
abbrev pub clause_of : InstanceName → List Lit
clause_of name = clause_with name (row_with name.row table)

-- a name has term 0 past its terms
abbrev pub IsPadded : InstanceName → Type 0
IsPadded name = name ≡ name_of name.row name.version (tuple_of name)

-- the atoms of a clause are over so many terms and versions, however many other atoms there are
abbrev pub AreInRangeOver : ℕ → ℕ → List Lit → Type 0
AreInRangeOver n versions clause = (s : Sizes) → s.terms ≡ n → s.versions ≡ versions → AreInRange s clause

-- the row is in the table and has as many variables, the version and the terms are there, and term 0 stands past these
pub record IsInstance (n versions : ℕ) (name : InstanceName) : Type 0 where
  pub row : option_map (λ r. r.variables) (row_with name.row table) ≡ Some name.arity
  pub version : name.version < versions
  pub terms : All (λ t. t.0 < n) (tuple_of name)
  pub padded : IsPadded name
