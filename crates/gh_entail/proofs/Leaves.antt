-- The formula of a leaf under the terms of the variables.
use Rattle.std.specs.Prelude.{◌≡◌, ℕ, List, map, length}
use Rattle.std.proofs.Common.{sym, ◌∙◌, ap}
use Rattle.std.proofs.lemmas.List.{length-map}
use Rattle.gh_base.specs.declared.atom.Term.{Term}
use Rattle.gh_base.specs.declared.term.TermKind.{TermKind}
use Rattle.gh_ast.specs.Plain.{Assertion}
use Rattle.gh_grass.specs.declared.binding.Bond.{Bond}
use Rattle.gh_grass.specs.Bindings.{bound_term, next_term}
use Rattle.gh_grass.specs.Footprints.{Variables, structure}
use Rattle.gh_symb.specs.Formulas.{variables, successor, meets}
use Rattle.gh_symb.specs.Encodings.{plain_kind}
use Rattle.gh_symb.specs.Inside.{binding_of}
use Rattle.gh_reduce.proofs.InsideLemmas.{variables_are, successor_is}
use Rattle.gh_entail.specs.Asked.{under_at}

pub meets_at : (ks : List TermKind) (bonds : List Bond) (f : Assertion)
    → structure (bound_term bonds) (next_term ks 0) 0 (length ks) f ≡ meets (map plain_kind ks) (under_at bonds f)
meets_at ks bonds f =
    ap (λ (v : Variables). structure v (next_term ks 0) 0 (length ks) f) (sym (variables_are bonds))
    ∙ ap (λ (n : Term → Term). structure (variables (binding_of bonds)) n 0 (length ks) f) (sym (successor_is ks 0))
    ∙ ap (λ (n : ℕ). structure (variables (binding_of bonds)) (successor (map plain_kind ks) 0) 0 n f)
    (sym (length-map ks plain_kind))
