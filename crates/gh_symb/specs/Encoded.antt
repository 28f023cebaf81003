-- A condition over terms, as it is encoded.
use Rattle.std.specs.Prelude.{◌≡◌, map}
use Rattle.gh_ast.specs.Plain.{Procedure, Program}
use Rattle.gh_path.specs.Conditions.{Condition}
use Rattle.gh_symb.specs.Symbolic as plain
use Rattle.gh_symb.specs.Encodings.{plain_kind, Each, IsBinding, IsUnder, IsTermStep, IsTermCheck}
use Rattle.gh_symb.specs.Inside.{binding_of, under_of, step_of, check_of}
use Rattle.gh_symb.specs.declared.over_terms.Symbolic.{Symbolic}

-- a condition over terms as a plain value
abbrev pub plain_of : Symbolic → plain.Symbolic
plain_of s =
    record {
      terms = map plain_kind s.terms;
      versions = s.versions;
      start = under_of s.start;
      steps = map step_of s.steps.items;
      check = check_of s.check;
      bindings = map binding_of s.bindings.items;
    }

-- s encodes the condition c of the procedure proc over terms
pub record IsSymbolic (P : Program) (proc : Procedure) (c : Condition) (s : Symbolic) : Type 0 where
  pub terms : map plain_kind s.terms ≡ (plain.symbolic_of P proc c).terms
  pub versions : s.versions ≡ (plain.symbolic_of P proc c).versions
  pub start : IsUnder s.start (plain.symbolic_of P proc c).start
  pub steps : Each IsTermStep s.steps.items (plain.symbolic_of P proc c).steps
  pub check : IsTermCheck s.check (plain.symbolic_of P proc c).check
  pub bindings : Each IsBinding s.bindings.items (plain.symbolic_of P proc c).bindings
