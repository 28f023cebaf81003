use Rattle.std.proofs.Common.{◌≡◌, ℕ, List, map, ap, ◌∙◌, sym, subst}
use Rattle.gh_ast.specs.declared.Occ.{Occ}
use Rattle.gh_ast.specs.Plain.{procedure_of}
use Rattle.gh_types.specs.Checks.{RepeatErrors}
use Rattle.gh_types.specs.Faults.{IsFirstOf}
use Rattle.gh_types.specs.Tables.{IsTableOf}
use Rattle.gh_types.proofs.FirstLemmas.{first_either}
use Rattle.gh_types.proofs.TableLemmas.{map_twice}
use Rattle.gh_types.proofs.procedures.in_procedures.Goals as goal

pub in_each-requires : goal.in_each-requires
in_each-requires c =
    let same : map (λ o. o.name) (map (λ o. o.now) c.as_slice-2.result.now)
    ≡ map (λ p. p.name.name) c.args.procedures.now =
    ap (λ os. map (λ o. o.name) (map (λ o. o.now) os)) c.as_slice-2.ensures.value
    ∙ (ap (map (λ o. o.name)) c.in_ok-names.ensures ∙ map_twice (λ p. p.name) (λ o. o.name) c.args.procedures.now)
    in
    subst (λ (names : List (List ℕ)). IsTableOf names c.in_ok-firsts.firsts.places) same c.in_ok-firsts.ensures

pub returns : goal.returns
returns c =
    let same : map (λ o. o.now) c.as_slice.result.now ≡ map (λ q. q.name) (map procedure_of c.args.procedures.now) =
    ap (map (λ o. o.now)) c.as_slice.ensures.value
    ∙ (c.in_ok-names.ensures ∙ sym (map_twice procedure_of (λ q. q.name) c.args.procedures.now))
    in
    let again =
    subst (λ (os : List Occ). IsFirstOf (RepeatErrors 2 os) c.in_ok-again.again) same c.in_ok-again.ensures in
    first_either _ _ _ _ _ c.earlier.ensures again c.in_ok-inside.ensures.says
