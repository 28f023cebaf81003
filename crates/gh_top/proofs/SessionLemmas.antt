-- From what a session decides to its answers.
use Rattle.std.proofs.Common.{◌≡◌, ◌∙◌, ℕ, suc, ◌+◌, ◌<◌, ◌≤◌, List, [], ◌∷◌, ◌++◌, length, map, take, drop, get_or}
use Rattle.std.proofs.Common.{refl, sym, ap, subst, append_assoc, append-nil}
use Rattle.std.specs.Prelude.{Option, Some, None, true, false, cond, codes}
use Rattle.std.proofs.Math.Numerals.{suc-eq-add-one}
use Rattle.std.proofs.Math.Seq.{drop-cons, take-suc}
use Rattle.std.proofs.lemmas.List.{length-map, map-append, drop_all}
use Rattle.gh_ast.specs.Plain.{Program}
use Rattle.gh_path.specs.Admitted.{IsAdmitted}
use Rattle.gh_path.specs.Conditions.{Condition, conditions}
use Rattle.gh_trace.specs.Validity.{ListedAreValid}
use Rattle.gh_trace.specs.declared.refutation.Refutation.{Refutation}
use Rattle.gh_session.specs.declared.edits.Edit.{Edit}
use Rattle.gh_session.specs.declared.edits.Edits.{Edits}
use Rattle.gh_session.specs.declared.kept.Kept.{Kept}
use Rattle.gh_session.specs.declared.session.SessionOutcome.{SessionOutcome}
use Rattle.gh_session.specs.Decided.{IsOutcome, asked, Grows, Tells}
use Rattle.gh_session.specs.Known.{Known, essences}
use Rattle.gh_session.specs.Places.{knowledge}
use Rattle.gh_session.specs.Lines as lines
use Rattle.gh_session.specs.Pieces.{whole}
use Rattle.gh_draw.specs.Drawings.{line}
use Rattle.gh_top.specs.Answering.{kept_essences, IsVerdictOn, IsAnswerOn}
use Rattle.gh_top.specs.Checks.{IsProgramVerdict, all_valid, some_refuted, of_refusal, of_verdict}
use Rattle.gh_top.specs.Lines.{verified_line}
use Rattle.gh_top.specs.Refusals.{IsText, IsProgramRefused, refusal_text}
use Rattle.gh_top.specs.Reports.{IsRefutation}
use Rattle.gh_top.specs.Sessions.{most_edited, AreAsked, to_last, to_first, IsKeptToo, of_refused, of_decided}
use Rattle.gh_top.specs.Sessions.{texts_after, answer_line, AreAnswers, no_more, one_more, IsSessionRefusal, absent}
use Rattle.gh_top.specs.Sessions.{too_long, IsSessionAnswer, file_refused, file_answered}
use Rattle.gh_top.specs.declared.refusal.Refusal.{Refusal}
use Rattle.gh_top.specs.declared.status.Status.{Status}
use Rattle.gh_top.specs.declared.status.Status.TheVariants.{Verified, Refuted, Listed, TextRefused, LogRefused}

-- the verdict

pub is_verified : (P : Program) (n : ℕ) (s : Status) (u : List ℕ) → ListedAreValid P → n ≡ length (conditions P)
    → s ≡ Verified
    → u ≡ verified_line n → IsProgramVerdict P s u
is_verified P n s u v count a b = rw (a, b, count) (all_valid v)

pub is_refuted : (P : Program) (s : Status) (u : List ℕ) → s ≡ Refuted → IsRefutation P u → IsProgramVerdict P s u
is_refuted P s u a f = rw a (some_refuted f)

-- what is counted

are_asked : (P : Program) (o : Option Refutation) → IsOutcome P o → AreAsked P (asked P o)
are_asked P None valid = to_last valid
are_asked P (Some r) f =
    to_first r.number f.condition
    (record { before = f.before; after = f.after; whole = f.whole; number = f.number_is; valid = f.valid })
    (λ valid. valid f.refutes.procedure f.refutes.of f.refutes.first.state (map (λ x. x.state) f.refutes.others)
    f.refutes.counterexample)

kept_too : (P : Program) (cs : List Condition) (old new : List Kept) (n : ℕ)
    → Grows P cs (knowledge old) n (knowledge new) → IsKeptToo P cs (kept_essences old) n (kept_essences new)
kept_too P cs old new n g =
    record {
      all = g.all;
      are = g.are;
      new = essences g.added;
      are_new = g.are_new;
      count = g.count ∙ sym (length-map g.added (λ (k : Known). k.essence));
      whole = ap essences g.whole ∙ map-append (λ (k : Known). k.essence) (knowledge old) g.added;
    }

pub verdict_on : (P : Program) (old new : List Kept) (o : SessionOutcome) (s : Status) (u : List ℕ)
    → IsOutcome P o.refuted → Tells P old o new → IsProgramVerdict P s u → IsVerdictOn P old o.decided u new
verdict_on P old new o s u outcome told v =
    record {
      status = s;
      verdict = v;
      asked = asked P o.refuted;
      are_asked = are_asked P o.refuted outcome;
      kept = kept_too P (asked P o.refuted) old new o.decided told;
    }

-- the answer to one text

pub answer_refused : (text : List ℕ) (x : Refusal) (old : List Kept) (n : ℕ) (u : List ℕ)
    → IsProgramRefused (Some text) x → n ≡ 0 → u ≡ refusal_text x → IsAnswerOn text old n u old
answer_refused text x old n u why a b =
    rw (a, b) (record { status = TextRefused; checked = of_refusal x why; counted = of_refused x why })

pub answer_decided : (text : List ℕ) (P : Program) (old new : List Kept) (n : ℕ) (u : List ℕ) → IsText text P
    → IsAdmitted P → IsVerdictOn P old n u new → IsAnswerOn text old n u new
answer_decided text P old new n u spelled admitted v =
    record {
      status = v.status;
      checked = of_verdict refl (record { spelled = spelled; admitted = admitted }) v.verdict;
      counted = of_decided (record { spelled = spelled; admitted = admitted }) v.are_asked v.kept;
    }

-- the answers so far: with the answers to the edits that are left they are all

abbrev pub GoesOn : List ℕ → List Edit → ℕ → ℕ → List Kept → List ℕ → Type 0
GoesOn head es i j kept text =
    (v : List ℕ) → AreAnswers j (kept_essences kept) (texts_after head (take i es) (drop i es)) v
    → AreAnswers 0 [] (texts_after head [] es) (text ++ v)

pub goes_first : (head : List ℕ) (es : List Edit) (kept : List Kept) → kept ≡ [] → GoesOn head es 0 0 kept []
goes_first head es kept none = rw none (λ v a. a)

-- the edit that comes next
abbrev ahead : List ℕ → List Edit → ℕ → Edit → List (List ℕ)
ahead head es i e =
    cond e.asks (whole head (take (suc i) es) ∷ texts_after head (take (suc i) es) (drop (suc i) es))
    (texts_after head (take (suc i) es) (drop (suc i) es))

texts_next : (head : List ℕ) (es : List Edit) (i : ℕ) (e : Edit) → i < length es → e ≡ get_or es i e
    → texts_after head (take i es) (drop i es) ≡ ahead head es i e
texts_next head es i e inside is =
    let front : take (suc i) es ≡ take i es ++ e ∷ [] =
    take-suc es i e inside ∙ ap (λ x. take i es ++ x ∷ []) (sym is) in
    let rest : drop i es ≡ e ∷ drop (suc i) es = drop-cons es i e inside ∙ ap (λ x. x ∷ drop (suc i) es) (sym is) in
    ap (texts_after head (take i es)) rest
    ∙ ap (λ z. cond e.asks (whole head z ∷ texts_after head z (drop (suc i) es)) (texts_after head z (drop (suc i) es)))
    (sym front)

past_it : (head : List ℕ) (es : List Edit) (i j : ℕ) (e : Edit) (kept : List Kept) (text : List ℕ) → i < length es
    → e ≡ get_or es i e → e.asks ≡ false → GoesOn head es i j kept text
    → GoesOn head es (suc i) j kept text
past_it head es i j e kept text inside is silent h v a =
    let same : texts_after head (take i es) (drop i es) ≡ texts_after head (take (suc i) es) (drop (suc i) es) =
    texts_next head es i e inside is
    ∙ ap (λ b. cond b (whole head (take (suc i) es) ∷ texts_after head (take (suc i) es) (drop (suc i) es))
    (texts_after head (take (suc i) es) (drop (suc i) es))) silent in
    h v (subst (λ ts. AreAnswers j (kept_essences kept) ts v) (sym same) a)

pub goes_past : (head : List ℕ) (es : List Edit) (i j : ℕ) (e : Edit) (kept : List Kept) (text : List ℕ) → i < length es
    → e ≡ get_or es i e → e.asks ≡ false → GoesOn head es i j kept text
    → GoesOn head es (i + 1) j kept text
goes_past head es i j e kept text inside is silent h =
    subst (λ m. GoesOn head es m j kept text) (suc-eq-add-one i) (past_it head es i j e kept text inside is silent h)

answered_it : (head : List ℕ) (es : List Edit) (i j n : ℕ) (e : Edit) (old new : List Kept) (text all u more : List ℕ)
    → i < length es → e ≡ get_or es i e → e.asks ≡ true
    → all ≡ whole head (take (suc i) es) → IsAnswerOn all old n u new → more ≡ text ++ answer_line (suc j) n ++ u
    → GoesOn head es i j old text → GoesOn head es (suc i) (suc j) new more
answered_it head es i j n e old new text all u more inside is asks all_is answer more_is h v a =
    let same : texts_after head (take i es) (drop i es) ≡ all ∷ texts_after head (take (suc i) es) (drop (suc i) es) =
    texts_next head es i e inside is
    ∙ ap (λ b. cond b (whole head (take (suc i) es) ∷ texts_after head (take (suc i) es) (drop (suc i) es))
    (texts_after head (take (suc i) es) (drop (suc i) es))) asks
    ∙ ap (λ z. z ∷ texts_after head (take (suc i) es) (drop (suc i) es)) (sym all_is) in
    let both : AreAnswers j (kept_essences old) (all ∷ texts_after head (take (suc i) es) (drop (suc i) es))
    (answer_line (suc j) n ++ u ++ v) = one_more answer.checked answer.counted a in
    let there =
    h (answer_line (suc j) n ++ u ++ v)
    (subst (λ ts. AreAnswers j (kept_essences old) ts (answer_line (suc j) n ++ u ++ v)) (sym same) both) in
    let regrouped : text ++ (answer_line (suc j) n ++ u ++ v) ≡ more ++ v =
    regroup text (answer_line (suc j) n) u v ∙ ap (λ z. z ++ v) (sym more_is) in
    subst (AreAnswers 0 [] (texts_after head [] es)) regrouped there
  where
    regroup : (a b c d : List ℕ) → a ++ (b ++ c ++ d) ≡ (a ++ b ++ c) ++ d
    regroup a b c d = simp append_assoc

pub goes_answered : (head : List ℕ) (es : List Edit) (i j n : ℕ) (e : Edit) (old new : List Kept)
    (text all u more : List ℕ) → i < length es → e ≡ get_or es i e → e.asks ≡ true
    → all ≡ whole head (take (i + 1) es) → IsAnswerOn all old n u new → more ≡ text ++ answer_line (j + 1) n ++ u
    → GoesOn head es i j old text → GoesOn head es (i + 1) (j + 1) new more
goes_answered head es i j n e old new text all u more inside is asks all_is answer more_is h =
    let there =
    answered_it head es i j n e old new text all u more inside is asks
    (all_is ∙ ap (λ m. whole head (take m es)) (sym (suc-eq-add-one i))) answer
    (more_is ∙ ap (λ m. text ++ answer_line m n ++ u) (sym (suc-eq-add-one j))) h in
    subst (λ m. GoesOn head es m (j + 1) new more) (suc-eq-add-one i)
    (subst (λ m. GoesOn head es (suc i) m new more) (suc-eq-add-one j) there)

pub goes_out : (head : List ℕ) (es : List Edit) (i j : ℕ) (kept : List Kept) (text : List ℕ) → length es ≤ i
    → GoesOn head es i j kept text → AreAnswers 0 [] (texts_after head [] es) text
goes_out head es i j kept text past h =
    let none : texts_after head (take i es) (drop i es) ≡ [] = ap (texts_after head (take i es)) (drop_all i es past) in
    subst (AreAnswers 0 [] (texts_after head [] es)) (append-nil text)
    (h [] (subst (λ ts. AreAnswers j (kept_essences kept) ts []) (sym none) no_more))

-- the report on a session file

pub is_answered : (text : List ℕ) (s : Edits) (st : Status) (u : List ℕ) → length text ≤ most_edited
    → lines.IsSession text s → AreAnswers 0 [] (texts_after s.head [] s.edits.items) u → st ≡ Listed
    → IsSessionAnswer (Some text) st u
is_answered text s st u short read answers a =
    rw a (file_answered (record
    { text = text; bytes_are = refl; short = short; edits = s; read = read; answers = answers }))

pub few_edits : (text : List ℕ) (s : Edits) → lines.IsSession text s → length s.edits.items ≤ 256
few_edits text s h = h.few

-- the report that refuses a session file

pub file_told : (bytes : Option (List ℕ)) (s : Status) (t u : List ℕ) → IsSessionRefusal bytes t → s ≡ LogRefused
    → u ≡ t → IsSessionAnswer bytes s u
file_told bytes s t u why a b = rw (a, b) (file_refused why)

pub absent_told : (bytes : Option (List ℕ)) (s : Status) (u : List ℕ) → bytes ≡ None → s ≡ LogRefused
    → u ≡ line (codes "refused: session Absent") → IsSessionAnswer bytes s u
absent_told bytes s u none a b = rw (none, a, b) (file_refused absent)

pub long_told : (bytes : Option (List ℕ)) (s : Status) (u : List ℕ)
    → (text : List ℕ) × (bytes ≡ Some text) × (most_edited < length text) → s ≡ LogRefused
    → u ≡ line (codes "refused: session TooLong") → IsSessionAnswer bytes s u
long_told bytes s u long a b = rw (long.1, a, b) (file_refused (too_long long.2))
