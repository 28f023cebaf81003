use Rattle.std.proofs.Common.{◌≡◌, ◌≤◌, ◌+◌, ◌∷◌, [], ◌++◌, take, length, arith, sym, ap, ◌∙◌, subst, length-set, List}
use Rattle.std.specs.Prelude.{vec_capacity}
use Rattle.std.proofs.lemmas.List.{take-append-le, length_push}
use Rattle.gh_cc.specs.declared.signatures.SignatureEntry.{SignatureEntry}
use Rattle.gh_cc.specs.Signatures.{AreSignatures}
use Rattle.gh_base.proofs.ListLemmas.{get_within, get_last}
use Rattle.gh_cc.proofs.SignatureLemmas.{signs_less}
use Rattle.gh_cc.proofs.signatures.erase.Goals as goal

pub index_mut-requires : goal.index_mut-requires
index_mut-requires c =
    let l = c.loop-entries in
    let all : AreSignatures l.table.items (c.pop.new.self.items ++ c.in-Some.entry ∷ []) (vec_capacity l.entries) =
    subst (λ (es : List SignatureEntry). AreSignatures l.table.items es (vec_capacity l.entries))
    c.in-Some.ensures.items
    l.invariant.signatures in
    let w = get_within l.table.items c.in-Some.entry.number _
    (all.on (length c.pop.new.self.items) c.in-Some.entry (get_last c.pop.new.self.items c.in-Some.entry)) in
    omega arith

pub loop-entries-preserved : goal.loop-entries-preserved
loop-entries-preserved c =
    let l = c.loop-entries in
    let more : l.entries.items ≡ c.pop.new.self.items ++ c.in-Some.entry ∷ [] = c.in-Some.ensures.items in
    let long : length l.entries.items ≡ length c.pop.new.self.items + 1 = ap length more
    ∙ length_push c.pop.new.self.items c.in-Some.entry in
    let h : c.args.len ≤ length c.pop.new.self.items = omega arith in
    record {
      signatures = rw c.pop.ensures.capacity
          (signs_less l.table.items c.pop.new.self.items (vec_capacity l.entries) c.in-Some.entry
          (subst (λ (es : List SignatureEntry). AreSignatures l.table.items es (vec_capacity l.entries)) more
          l.invariant.signatures));
      front = sym (take-append-le c.args.len c.pop.new.self.items (c.in-Some.entry ∷ []) h)
          ∙ ap (take c.args.len) (sym more) ∙ l.invariant.front;
      long = length-set l.table.items c.in-Some.entry.number _ ∙ l.invariant.long;
    }
