-- Tables that grow keep the lines that stand in them.
use Rattle.std.proofs.Common.{◌≡◌, ◌<◌, ◌≤◌, ◌+◌, ◌-◌, ◌^◌, ℕ, zero, suc, List, [], ◌∷◌, ◌++◌, length, take, drop, map}
use Rattle.std.proofs.Common.{Some, Result, Ok, Err, OnErr, All, refl, sym, ◌∙◌, ap, subst, arith, length-append}
use Rattle.std.specs.Prelude.{slice_get, get_or}
use Rattle.std.specs.List.{flat_map, sum_by}
use Rattle.std.proofs.lemmas.List.{drop-take, take-append-le, map-append, take_more, append-nil}
use Rattle.std.proofs.lemmas.List.Elements.{All-head, All-tail, All-push}
use Rattle.std.proofs.lemmas.Option.{slice_get_within, get_or_from_slice_get}
use Rattle.std.proofs.lemmas.List.Sums.{sum_by-append}
use Rattle.std.proofs.lemmas.Grind.{flat_map-append}
use Rattle.gh_base.specs.declared.atom.Lit.{Lit}
use Rattle.gh_log.specs.Lines as plain
use Rattle.gh_log.specs.declared.lines.Part.{Part}
use Rattle.gh_log.specs.declared.lines.Entry.{Entry}
use Rattle.gh_log.specs.declared.lines.Entry.TheVariants as entry
use Rattle.gh_log.specs.Tables.{part_of, hinted_at, line_at, LiesWithin, HasClause, HasParts, IsAdded, Extends}
use Rattle.gh_log.specs.Tables.{literals_of, numbers_of, HoldLines, HoldEntries, MakesRoom, HoldsLiterals, HoldsNumbers}

-- what stands between two places
pub between : {X : Type 0} (from to : ℕ) (xs : List X) → from ≤ to
    → take (to - from) (drop from xs) ≡ drop from (take to xs)
between from to xs h =
    let whole : from + (to - from) ≡ to = omega (arith, h) in
    sym (drop-take from (to - from) xs) ∙ ap (λ n. drop from (take n xs)) whole

part_kept : {X : Type 0} (old new : List X) (p : Part) → Extends new old → LiesWithin (length old) p
    → part_of new p ≡ part_of old p
part_kept old new p e h = ap (drop p.from) (ap (take p.to) e.same ∙ take-append-le p.to old e.more h.below)

within_more : {X : Type 0} (old new : List X) (p : Part) → Extends new old → LiesWithin (length old) p
    → LiesWithin (length new) p
within_more old new p e h =
    let n = ap length e.same in
    let m = length-append old e.more in
    record { order = h.order; below = omega (arith, h.below, n, m) }

clause_kept : (cs ds : List Lit) (ns : List ℕ) → Extends ds cs → HasClause (length cs) ns
    → hinted_at ds ns ≡ hinted_at cs ns
clause_kept cs ds [] x h = absurd h
clause_kept cs ds (from ∷ []) x h = absurd h
clause_kept cs ds (from ∷ to ∷ hints) x h =
    ap (λ c. plain.Hinted c hints) (part_kept cs ds (record { from = from; to = to }) x h)

clause_within : (cs ds : List Lit) (ns : List ℕ) → Extends ds cs → HasClause (length cs) ns → HasClause (length ds) ns
clause_within cs ds [] x h = h
clause_within cs ds (from ∷ []) x h = h
clause_within cs ds (from ∷ to ∷ hints) x h = within_more cs ds (record { from = from; to = to }) x h

line_kept : (cs ds : List Lit) (ns ms : List ℕ) (e : Entry) → Extends ds cs → Extends ms ns → HasParts cs ns e
    → line_at ds ms e ≡ line_at cs ns e
line_kept cs ds ns ms (entry.Axiom name) x y h = refl
line_kept cs ds ns ms (entry.Clause k) x y h = refl
line_kept cs ds ns ms (entry.Lemma c) x y h = ap plain.Lemma (part_kept cs ds c x h)
line_kept cs ds ns ms (entry.Learnt c) x y h = ap plain.Learnt (part_kept cs ds c x h)
line_kept cs ds ns ms (entry.Hinted part) x y h =
    ap (hinted_at ds) (part_kept ns ms part y h.0) ∙ clause_kept cs ds (part_of ns part) x h.1
line_kept cs ds ns ms (entry.Delete positions) x y h = ap plain.Delete (part_kept ns ms positions y h)

parts_kept : (cs ds : List Lit) (ns ms : List ℕ) (e : Entry) → Extends ds cs → Extends ms ns → HasParts cs ns e
    → HasParts ds ms e
parts_kept cs ds ns ms (entry.Axiom name) x y h = tt
parts_kept cs ds ns ms (entry.Clause k) x y h = tt
parts_kept cs ds ns ms (entry.Lemma c) x y h = within_more cs ds c x h
parts_kept cs ds ns ms (entry.Learnt c) x y h = within_more cs ds c x h
parts_kept cs ds ns ms (entry.Hinted part) x y h = (
  within_more ns ms part y h.0,
  subst (HasClause (length ds)) (sym (part_kept ns ms part y h.0)) (clause_within cs ds (part_of ns part) x h.1),
)
parts_kept cs ds ns ms (entry.Delete positions) x y h = within_more ns ms positions y h

-- the parts of all entries lie within the tables
abbrev pub AllHaveParts : List Lit → List ℕ → List Entry → Type 0
AllHaveParts cs ns es = All (HasParts cs ns) es

lines_kept : (cs ds : List Lit) (ns ms : List ℕ) (es : List Entry) → Extends ds cs → Extends ms ns
    → AllHaveParts cs ns es → map (line_at ds ms) es ≡ map (line_at cs ns) es
lines_kept cs ds ns ms [] x y h = refl
lines_kept cs ds ns ms (e ∷ es) x y h =
    let here = line_kept cs ds ns ms e x y (All-head (HasParts cs ns) e es h) in
    let there = lines_kept cs ds ns ms es x y (All-tail (HasParts cs ns) e es h) in
    λ i. here i ∷ there i

-- the entries stay the same
pub same_lines : (cs ds : List Lit) (ns ms : List ℕ) (es fs : List Entry) (old : List plain.LogLine) → Extends ds cs
    → Extends ms ns → AllHaveParts cs ns es
    → map (line_at cs ns) es ≡ old → fs ≡ es → map (line_at ds ms) fs ≡ old
same_lines cs ds ns ms es fs old x y h v f = ap (map (line_at ds ms)) f ∙ lines_kept cs ds ns ms es x y h ∙ v

-- one entry more
pub pushed_line : (cs ds : List Lit) (ns ms : List ℕ) (es fs : List Entry) (e : Entry) (l : plain.LogLine)
    (old : List plain.LogLine) → Extends ds cs → Extends ms ns → AllHaveParts cs ns es
    → map (line_at cs ns) es ≡ old → fs ≡ es ++ e ∷ [] → line_at ds ms e ≡ l → map (line_at ds ms) fs ≡ old ++ l ∷ []
pushed_line cs ds ns ms es fs e l old x y h v f g =
    let before = lines_kept cs ds ns ms es x y h ∙ v in
    ap (map (line_at ds ms)) f ∙ map-append (line_at ds ms) es (e ∷ []) ∙ (λ i. before i ++ g i ∷ [])

pub pushed_parts : (cs ds : List Lit) (ns ms : List ℕ) (es fs : List Entry) (e : Entry) → Extends ds cs → Extends ms ns
    → AllHaveParts cs ns es
    → fs ≡ es ++ e ∷ [] → HasParts ds ms e → AllHaveParts ds ms fs
pushed_parts cs ds ns ms es fs e x y h f g =
    subst (AllHaveParts ds ms) (sym f)
    (All-push (HasParts ds ms) es e (λ k d l. parts_kept cs ds ns ms _ x y (h k d l)) g)

pub on_err : {T E : Type 0} {P : Type 0} (answer : Result T E) → P → OnErr answer P
on_err (Ok x) p = tt
on_err (Err e) p = p

-- the text of one line more
pub text_more : (f : plain.LogLine → List ℕ) (ls : List plain.LogLine) (i : ℕ) (l : plain.LogLine)
    → slice_get ls i ≡ Some l → flat_map f (take (i + 1) ls) ≡ flat_map f (take i ls) ++ f l
text_more f ls i l e =
    let is : get_or ls i l ≡ l = get_or_from_slice_get ls i l l e in
    ap (flat_map f) (take_more ls i l (slice_get_within ls i l e) ∙ ap (λ x. take i ls ++ x ∷ []) is)
    ∙ flat_map-append f (take i ls) (l ∷ []) ∙ ap (λ t. flat_map f (take i ls) ++ t) (append-nil (f l))

more_few : (a more old new : ℕ) → a < 2 ^ 32 → a ≤ old → old + more ≤ new → (0 < more → new < 2 ^ 32)
    → a + more < 2 ^ 32
more_few a zero old new small below room few = omega (arith, small)
more_few a (suc m) old new small below room few = let h = few (omega arith) in omega (arith, below, room, h)

-- a line more is held where the tables made room for it
more_held : (cs ds : List Lit) (ns ms : List ℕ) (ls : List plain.LogLine) (l : plain.LogLine) → HoldLines ls cs ns
    → HoldsLiterals cs ds l → HoldsNumbers ns ms l
    → HoldLines (ls ++ l ∷ []) ds ms
more_held cs ds ns ms ls l h x y =
    let e = sum_by-append literals_of ls (l ∷ []) in
    let f = sum_by-append numbers_of ls (l ∷ []) in
    let p =
    more_few (sum_by literals_of ls) (literals_of l) (length cs) (length ds) h.few.literals h.literals_there x.grown
    x.few in
    let q =
    more_few (sum_by numbers_of ls) (numbers_of l) (length ns) (length ms) h.few.numbers h.numbers_there y.grown
    y.few in
    record {
      few = record { literals = omega (arith, e, p); numbers = omega (arith, f, q) };
      literals_there = omega (arith, e, h.literals_there, x.grown);
      numbers_there = omega (arith, f, h.numbers_there, y.grown);
    }

pub pushed_held : (cs ds : List Lit) (ns ms : List ℕ) (es fs : List Entry) (e : Entry) (l : plain.LogLine)
    → Extends ds cs → Extends ms ns → AllHaveParts cs ns es
    → HoldEntries cs ns es → fs ≡ es ++ e ∷ [] → line_at ds ms e ≡ l → HoldsLiterals cs ds l → HoldsNumbers ns ms l
    → HoldEntries ds ms fs
pushed_held cs ds ns ms es fs e l x y h held f g a b =
    subst (λ ls. HoldLines ls ds ms) (sym (pushed_line cs ds ns ms es fs e l (map (line_at cs ns) es) x y h refl f g))
    (more_held cs ds ns ms (map (line_at cs ns) es) l held a b)

pub still_parts : (cs ds : List Lit) (ns ms : List ℕ) (es fs : List Entry) → Extends ds cs → Extends ms ns
    → AllHaveParts cs ns es → fs ≡ es → AllHaveParts ds ms fs
still_parts cs ds ns ms es fs x y h f =
    subst (AllHaveParts ds ms) (sym f) (λ k d l. parts_kept cs ds ns ms _ x y (h k d l))

-- tables that grow hold the lines that they held
pub still_held : (cs ds : List Lit) (ns ms : List ℕ) (es fs : List Entry) → Extends ds cs → Extends ms ns
    → AllHaveParts cs ns es → HoldEntries cs ns es → fs ≡ es → HoldEntries ds ms fs
still_held cs ds ns ms es fs x y h held f =
    let a = ap length x.same in
    let b = length-append cs x.more in
    let c = ap length y.same in
    let d = length-append ns y.more in
    subst (λ ls. HoldLines ls ds ms) (sym (same_lines cs ds ns ms es fs (map (line_at cs ns) es) x y h refl f))
    (record {
      few = held.few;
      literals_there = omega (arith, held.literals_there, a, b);
      numbers_there = omega (arith, held.numbers_there, c, d);
    })

-- what was added to a table has room in it
pub room_added : {X : Type 0} (old new items : List X) (part : Part) → IsAdded old new items part
    → MakesRoom old new (length items)
room_added old new items part h =
    let e = ap length h.grown in
    let f = length-append old items in
    record { grown = omega (arith, e, f); few = λ some. h.few }

-- .. in two steps
pub room_twice : {X : Type 0} (old mid new first second : List X) (p q : Part) → IsAdded old mid first p
    → IsAdded mid new second q → MakesRoom old new (length first + length second)
room_twice old mid new first second p q h k =
    let e = ap length h.grown in
    let f = length-append old first in
    let a = ap length k.grown in
    let b = length-append mid second in
    record { grown = omega (arith, e, f, a, b); few = λ some. k.few }
