-- The lines of a section as plain values: all definitions speak of these.
use Rattle.std.specs.Prelude.{ℕ, List}
use Rattle.gh_base.specs.declared.atom.Lit.{Lit}
use Rattle.gh_inst.specs.declared.naming.InstanceName.{InstanceName}

pub data LogLine : Type 0 where
  -- an instance of an axiom row
  Axiom : InstanceName → LogLine
  -- a ground clause, by its number from 0
  Clause : ℕ → LogLine
  -- a clause that follows from equality and congruence alone
  Lemma : List Lit → LogLine
  -- a clause that unit propagation over all earlier lines shows
  Learnt : List Lit → LogLine
  -- a clause, and the positions of the earlier lines along which unit propagation shows it, in order
  Hinted : List Lit → List ℕ → LogLine
  -- the positions of lines that later ones don't name
  Delete : List ℕ → LogLine
