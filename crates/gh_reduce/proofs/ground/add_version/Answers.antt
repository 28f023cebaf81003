use Rattle.std.proofs.Common.{◌≡◌, ℕ, [], ◌∷◌, ◌++◌, length, map, sym, ◌∙◌, ap, arith}
use Rattle.std.proofs.lemmas.List.{length-map}
use Rattle.gh_base.specs.Atoms.{term}
use Rattle.gh_grass.specs.Claims.{ground_formula_of, negation_of}
use Rattle.gh_symb.specs.Formulas.{allocated, each, leads, successors_from}
use Rattle.gh_symb.specs.Encodings.{plain_kind}
use Rattle.gh_reduce.specs.declared.rows.EachTerm.TheVariants.{Leads}
use Rattle.gh_reduce.specs.Growth.{stated_in}
use Rattle.gh_reduce.specs.Rows.{of_term}
use Rattle.gh_reduce.proofs.RowLemmas.{term_stays, claim_within, terms_more, first_one, some_more, ready_stays}
use Rattle.gh_reduce.proofs.RowLemmas.{version_stays}
use Rattle.gh_reduce.proofs.ground.add_version.Goals as goal

pub add_formula-requires : goal.add_formula-requires
add_formula-requires c =
    let some = c.requires.ready.some in
    claim_within c.args.ground.now.sizes _ (ground_formula_of c.in_ok-null.null) c.in_ok-null.ensures
    (c.requires.version, omega (arith, some))

pub add_each_term-requires : goal.add_each_term-requires
add_each_term-requires c =
    let p = c.args.ground.now in
    let n : c.count.result ≡ p.sizes.terms =
    c.count.ensures ∙ sym (c.requires.ready.terms ∙ length-map c.args.terms.now plain_kind) in
    term_stays p c.add_formula.new.ground (ground_formula_of c.in_ok-null.null ∷ [])
    (Leads c.args.version c.count.result) c.in_ok-add_formula.ensures.stated (c.requires.version, n)

pub add_successors-requires : goal.add_successors-requires
add_successors-requires c =
    let p = c.args.ground.now in
    let q = c.add_formula.new.ground in
    let r = c.add_each_term.new.ground in
    let fs = ground_formula_of c.in_ok-null.null ∷ [] in
    let e =
    terms_more p q r fs (of_term (Leads c.args.version c.count.result)) c.in_ok-add_formula.ensures.stated
    c.in_ok-add_each_term.ensures.stated in
    let gs = fs ++ each p.sizes.terms (of_term (Leads c.args.version c.count.result)) in
    record {
      version = version_stays p r gs c.args.version e c.requires.version;
      ready = ready_stays p r gs (map plain_kind c.args.terms.now) e c.requires.ready;
    }

pub returns-clause-stated : goal.returns-clause-stated
returns-clause-stated c =
    let p = c.args.ground.now in
    let q = c.add_formula.new.ground in
    let r = c.add_each_term.new.ground in
    let i = c.args.version in
    let ks = map plain_kind c.args.terms.now in
    let f = negation_of (allocated i (term 0)) in
    let rest = successors_from i 0 ks in
    let start =
    first_one p q f (ground_formula_of c.in_ok-null.null) c.in_ok-add_formula.ensures.stated c.in_ok-null.ensures in
    let e = terms_more p q r (f ∷ []) (leads c.count.result i) start c.in_ok-add_each_term.ensures.stated in
    let n : c.count.result ≡ length ks = c.count.ensures ∙ sym (length-map c.args.terms.now plain_kind) in
    some_more p r c.add_successors.new.ground (f ∷ each p.sizes.terms (leads c.count.result i)) rest e
    c.in_ok-add_successors.ensures
    ∙ ap (λ (k : ℕ). stated_in p ((f ∷ each k (leads c.count.result i)) ++ rest)) c.requires.ready.terms
    ∙ ap (λ (k : ℕ). stated_in p ((f ∷ each (length ks) (leads k i)) ++ rest)) n
