use Rattle.std.proofs.Common.{◌≡◌, ◌<◌, ◌++◌, ℕ, List, All, take}
use Rattle.std.specs.Prelude.{slice_index_or}
use Rattle.std.specs.Int.{bit_at}
use Rattle.gh_base.specs.declared.atom.Term.{Term}
use Rattle.gh_base.specs.Meaning.{IsLitTrue}
use Rattle.gh_base.specs.Structures.{interpretation_of}
use Rattle.gh_base.specs.Atoms.{term}
use Rattle.gh_inst.specs.Schemas.{lit_over}
use Rattle.gh_inst.specs.Search.{IsAmong, IsRowTrue}
use Rattle.gh_inst.proofs.words.open_terms.Given as goal

abbrev pub invariant-loop-pattern : goal.invariant-loop-pattern
invariant-loop-pattern l = record {
  closed : (z : ℕ) (rest : List Term) → z < l.worded.structure.now.sizes.terms
      → All (λ t. t.0 < l.worded.structure.now.sizes.terms) rest
      → slice_index_or (take l.first l.tuple ++ rest) l.first (term 0) ≡ term z
      → bit_at l.terms z ≡ 0 → IsRowTrue (interpretation_of l.worded.structure.now) l.worded.version l.lits
      (take l.first l.tuple ++ rest);
  known : All (λ p. IsAmong l.first p
      → ¬ IsLitTrue (interpretation_of l.worded.structure.now) (lit_over l.worded.version (take l.first l.tuple) p))
      (take l.pattern-index l.lits);
}
