-- The ground formulas of a question, and their clauses.
use Rattle.std.specs.Prelude.{List, [], ◌∷◌, ◌++◌, length}
use Rattle.gh_base.specs.Grounds.{Problem}
use Rattle.gh_ast.specs.Plain.{Assertion}
use Rattle.gh_path.specs.Terms.{Kind, Bindings, Terms}
use Rattle.gh_grass.specs.Claims.{negation_of, all_of, one_of, GroundFormula}
use Rattle.gh_grass.specs.Clauses.{clauses_of, definitions_of}
use Rattle.gh_symb.specs.Formulas.{meets_whole, version_formulas}
use Rattle.gh_ast.specs.Questions.{Claim, leaf, denial, every, either, Claims, no_claims, claim_first, Question}
use Rattle.gh_entail.specs.Terms.{question_walked}

-- the whole heap meets the assertion, in version 0
abbrev pub leaf_formula : List Kind → Bindings → Assertion → GroundFormula
leaf_formula ks b f = meets_whole ks (record { assertion = f; binding = b; version = 0 })

-- the claim holds, over terms of the kinds ks, where b gives the terms of the variables
abbrev mutual
  pub claim_formula : List Kind → Bindings → Claim → GroundFormula
  claim_formula ks b (leaf f) = leaf_formula ks b f
  claim_formula ks b (denial c) = negation_of (claim_formula ks b c)
  claim_formula ks b (every cs) = all_of (claim_formulas ks b cs)
  claim_formula ks b (either cs) = one_of (claim_formulas ks b cs)

  pub claim_formulas : List Kind → Bindings → Claims → List GroundFormula
  claim_formulas ks b no_claims = []
  claim_formulas ks b (claim_first c cs) = claim_formula ks b c ∷ claim_formulas ks b cs

-- the formulas of version 0, the left claim, and that the right one is false
abbrev pub formulas_over : Terms → Question → List GroundFormula
formulas_over t q =
    version_formulas t.kinds 0
    ++ claim_formula t.kinds t.bindings q.left ∷ negation_of (claim_formula t.kinds t.bindings q.right) ∷ []

abbrev pub question_formulas : Question → List GroundFormula
question_formulas q = formulas_over (question_walked q) q

-- the clauses of a question, over its terms and one version of the heap
abbrev pub question_problem : Question → Problem
question_problem q =
    record {
      sizes = record {
        terms = length (question_walked q).kinds;
        versions = 1;
        defs = definitions_of (question_formulas q);
      };
      clauses = clauses_of (question_formulas q);
    }
