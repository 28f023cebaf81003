use Rattle.std.proofs.Common.{refl, ◌≡◌, ◌≤◌, ◌+◌, ◌∷◌, [], ◌++◌, take, length, arith, sym, ap, ◌∙◌, subst}
use Rattle.std.proofs.Common.{length-set, List}
use Rattle.std.proofs.lemmas.List.{take-append-le, length_push}
use Rattle.gh_cc.specs.declared.uses.Mention.{Mention}
use Rattle.gh_cc.specs.Uses.{AreUses, AreCounts}
use Rattle.gh_cc.proofs.CountLemmas.{counts_pop_none, counts_pop_some, count_positive, count_read}
use Rattle.gh_cc.proofs.UseLemmas.{uses_pop_none, uses_pop_some}
use Rattle.gh_cc.proofs.uses.forget.Goals as goal

pub overflow_sub-index_mut : goal.overflow_sub-index_mut
overflow_sub-index_mut c =
    let l = c.loop-mentions in
    let more : l.mentions.items ≡ c.pop.new.self.items ++ c.in-Some.mention ∷ [] = c.in-Some.ensures.items in
    let before =
    subst (λ (ms : List Mention). AreCounts ms l.counts.items (length l.last.items)) more l.invariant.counts in
    let at = count_read l.mentions.items c.pop.new.self.items l.last.items l.counts.items c.in-Some.mention
    c.in-Some-term.term _ _ more l.invariant.uses l.invariant.counts refl c.in-Some-term.is
    c.index_mut-in-Some-term.ensures.value in
    let some = count_positive c.pop.new.self.items l.counts.items c.in-Some.mention c.in-Some-term.term _ _ before
    c.in-Some-term.is at in
    omega (arith, some)

pub loop-mentions-preserved-in-Some-term : goal.loop-mentions-preserved-in-Some-term
loop-mentions-preserved-in-Some-term c =
    let l = c.loop-mentions in
    let more : l.mentions.items ≡ c.pop.new.self.items ++ c.in-Some.mention ∷ [] = c.in-Some.ensures.items in
    let long : length l.mentions.items ≡ length c.pop.new.self.items + 1 = ap length more
    ∙ length_push c.pop.new.self.items c.in-Some.mention in
    let h : c.args.len ≤ length c.pop.new.self.items = omega arith in
    let before =
    subst (λ (ms : List Mention). AreCounts ms l.counts.items (length l.last.items)) more l.invariant.counts in
    let at = count_read l.mentions.items c.pop.new.self.items l.last.items l.counts.items c.in-Some.mention
    c.in-Some-term.term _ _ more l.invariant.uses l.invariant.counts refl c.in-Some-term.is
    c.index_mut-in-Some-term.ensures.value in
    let counts =
    counts_pop_some c.pop.new.self.items l.counts.items c.in-Some.mention c.in-Some-term.term _ _ before
    c.in-Some-term.is at in
    record {
      uses = uses_pop_some c.pop.new.self.items l.last.items c.in-Some.mention c.in-Some-term.term
          (subst (λ (ms : List Mention). AreUses ms l.last.items) more l.invariant.uses) c.in-Some-term.is;
      counts = record {
        long = counts.long ∙ sym (length-set l.last.items c.in-Some-term.term.0 _);
        each = counts.each;
      };
      front = sym (take-append-le c.args.len c.pop.new.self.items (c.in-Some.mention ∷ []) h)
          ∙ ap (take c.args.len) (sym more) ∙ l.invariant.front;
      capacity = c.pop.ensures.capacity ∙ l.invariant.capacity;
      long = length-set l.last.items c.in-Some-term.term.0 _ ∙ l.invariant.long;
    }

pub loop-mentions-preserved : goal.loop-mentions-preserved
loop-mentions-preserved c =
    let l = c.loop-mentions in
    let more : l.mentions.items ≡ c.pop.new.self.items ++ c.in-Some.mention ∷ [] = c.in-Some.ensures.items in
    let long : length l.mentions.items ≡ length c.pop.new.self.items + 1 = ap length more
    ∙ length_push c.pop.new.self.items c.in-Some.mention in
    let h : c.args.len ≤ length c.pop.new.self.items = omega arith in
    record {
      uses = uses_pop_none c.pop.new.self.items l.last.items c.in-Some.mention
          (subst (λ (ms : List Mention). AreUses ms l.last.items) more l.invariant.uses) c.in_default-term.not-Some;
      counts = counts_pop_none c.pop.new.self.items l.counts.items c.in-Some.mention _
          (subst (λ (ms : List Mention). AreCounts ms l.counts.items (length l.last.items)) more l.invariant.counts)
          c.in_default-term.not-Some;
      front = sym (take-append-le c.args.len c.pop.new.self.items (c.in-Some.mention ∷ []) h)
          ∙ ap (take c.args.len) (sym more) ∙ l.invariant.front;
      capacity = c.pop.ensures.capacity ∙ l.invariant.capacity;
      long = l.invariant.long;
    }
