use Rattle.std.proofs.Common.{◌++◌, inl, inr, take, All, arith, refl, ap, subst, take_all, ◌∙◌}
use Rattle.std.specs.Int.{bit_at}
use Rattle.std.proofs.lemmas.Nat.Bits.{bit_at-zero}
use Rattle.std.specs.Int.Bits.{and_zero_r}
use Rattle.std.specs.Prelude.{bit_and}
use Rattle.std.proofs.lemmas.List.Elements.{All-more}
use Rattle.gh_base.specs.Meaning.{IsLitTrue}
use Rattle.gh_base.specs.Structures.{interpretation_of}
use Rattle.gh_inst.specs.Schemas.{lit_over}
use Rattle.gh_inst.specs.Search.{IsAmong, IsRowTrue}
use Rattle.gh_inst.proofs.SearchLemmas.{true_at, none_true, got}
use Rattle.gh_inst.proofs.WordLemmas.{all_ones, and_zero}
use Rattle.gh_inst.proofs.words.open_terms.Goals as goal

pub loop-pattern-init : goal.loop-pattern-init
loop-pattern-init c = record {
  closed = λ z rest below later end bit. absurd (all_ones z (omega (arith, below, c.requires.worded.few)) bit);
  known = λ k d l. absurd (omega (arith, l));
}

pub returns-then-terms-eq0 : goal.returns-then-terms-eq0
returns-then-terms-eq0 c =
    let a = c.args in
    let m = interpretation_of a.worded.now.structure.now in
    record {
      closed = λ z rest below later end bit.
          elim (and_zero c.loop-pattern.terms c.next_terms-terms.result z
          (ap (λ w. bit_at w z) c.if-terms-eq0.true ∙ bit_at-zero z)) as
          (λ _. IsRowTrue m a.worded.now.version a.lits.now (take a.first a.tuple.now ++ rest)) [
            | inl before ↦ c.loop-pattern.invariant.closed z rest below later end before
            | inr here ↦ true_at m a.worded.now.version (take a.first a.tuple.now ++ rest) a.lits.now
                c.loop-pattern.pattern-index _ (got a.lits.now c.loop-pattern.pattern-index _ (omega arith))
                (c.next_terms-terms.ensures.closed z rest below later end here)
          ];
      known = λ some. absurd (some refl);
    }

pub loop-pattern-preserved : goal.loop-pattern-preserved
loop-pattern-preserved c =
    let a = c.args in
    let m = interpretation_of a.worded.now.structure.now in
    record {
      closed = λ z rest below later end bit.
          elim (and_zero c.loop-pattern.terms c.next_terms-terms.result z bit) as
          (λ _. IsRowTrue m a.worded.now.version a.lits.now (take a.first a.tuple.now ++ rest)) [
            | inl before ↦ c.loop-pattern.invariant.closed z rest below later end before
            | inr here ↦ true_at m a.worded.now.version (take a.first a.tuple.now ++ rest) a.lits.now
                c.loop-pattern.pattern-index _ (got a.lits.now c.loop-pattern.pattern-index _ (omega arith))
                (c.next_terms-terms.ensures.closed z rest below later end here)
          ];
      known = All-more (λ p. IsAmong a.first p
          → ¬ IsLitTrue m (lit_over a.worded.now.version (take a.first a.tuple.now) p)) a.lits.now
          c.loop-pattern.pattern-index _ (omega arith) c.loop-pattern.invariant.known
          (c.next_terms-terms.ensures.known
          (λ e. c.if-terms-eq0.false (ap (bit_and c.loop-pattern.terms) e ∙ and_zero_r c.loop-pattern.terms)));
    }

pub returns : goal.returns
returns c =
    let a = c.args in
    let m = interpretation_of a.worded.now.structure.now in
    let all = subst (All (λ p. IsAmong a.first p
    → ¬ IsLitTrue m (lit_over a.worded.now.version (take a.first a.tuple.now) p)))
    (take_all c.loop-pattern.pattern-index a.lits.now (omega arith)) c.loop-pattern.invariant.known in
    record {
      closed = c.loop-pattern.invariant.closed;
      known = λ some among. none_true m a.worded.now.version a.first (take a.first a.tuple.now) a.lits.now all among;
    }
