use Rattle.std.proofs.Common.{◌≡◌, ◌∙◌, ◌≤◌, length, ap, arith}
use Rattle.gh_ast.specs.Questions.{question_of}
use Rattle.gh_symb.specs.Tables.{state}
use Rattle.gh_entail.specs.Terms.{question_walked}
use Rattle.gh_entail.proofs.Inside.{walked_both, short_kinds, bindings_are}
use Rattle.gh_entail.proofs.terms.terms_of.Goals as goal

pub encode-requires : goal.encode-requires
encode-requires c =
    let q = question_of c.args.question.now in
    let ks = c.walk_claim-2.new.kinds in
    let es = c.walk_claim-2.new.scope in
    let all : state ks es 0 ≡ question_walked q =
    walked_both q c.in_ok-kinds.kinds c.walk_claim.new.kinds ks c.new-scope.result c.walk_claim.new.scope es
    c.in_ok-kinds.ensures c.new-scope.ensures c.in_ok-walk_claim.ensures c.in_ok-walk_claim-2.ensures in
    let few : length ks ≤ 32 = omega (arith, c.if-count-gt-MOST_TERMS.false, c.count.ensures) in
    record { few = few; short = short_kinds q ks es all few }

pub returns : goal.returns
returns c =
    let q = question_of c.args.question.now in
    let ks = c.walk_claim-2.new.kinds in
    let es = c.walk_claim-2.new.scope in
    let all : state ks es 0 ≡ question_walked q =
    walked_both q c.in_ok-kinds.kinds c.walk_claim.new.kinds ks c.new-scope.result c.walk_claim.new.scope es
    c.in_ok-kinds.ensures c.new-scope.ensures c.in_ok-walk_claim.ensures c.in_ok-walk_claim-2.ensures in
    let few : length ks ≤ 32 = omega (arith, c.if-count-gt-MOST_TERMS.false, c.count.ensures) in (
      record {
        terms = c.in_ok-terms.ensures ∙ ap (λ s. s.kinds) all;
        binding = bindings_are q ks es c.in_ok-binding.binding all few c.in_ok-binding.ensures;
      },
      rw (ap (λ s. s.kinds) all) at few,
    )
