-- The text of a drawing is that of its states over the variables of its condition.
use Rattle.std.specs.Prelude.{◌≡◌, ◌≢◌, ℕ, suc, ◌+◌, ◌-◌, ◌<◌, List, [], ◌∷◌, ◌++◌, codes, length, map, All, AllPairs}
use Rattle.std.specs.Prelude.{Contains, Some, get_or, slice_get, unwrap_or}
use Rattle.std.specs.List.{flat_map}
use Rattle.std.specs.Fmt.{decimal}
use Rattle.std.proofs.Common.{refl, sym, ◌∙◌, ap, subst, arith}
use Rattle.std.proofs.lemmas.List.{get_or-map, get_or_default, length-map, append_assoc}
use Rattle.std.proofs.lemmas.List.Elements.{All-head, All-tail}
use Rattle.std.proofs.lemmas.Option.{slice_get_within, get_or_from_slice_get}
use Rattle.gh_ast.specs.Plain.{Procedure, Program}
use Rattle.gh_ast.specs.Programs.{Name, variable_names}
use Rattle.gh_ast.specs.Rules.{IsTyped}
use Rattle.gh_ast.proofs.TypedPrograms.{variables_are_distinct}
use Rattle.gh_assert.specs.declared.store.Entry.{Entry}
use Rattle.gh_assert.specs.Stores.{listed_names, AreDistinct, store_of, IsListedAt}
use Rattle.gh_assert.proofs.Entries.{listed_here}
use Rattle.gh_path.specs.Conditions.{Condition, conditions, IsOf}
use Rattle.gh_trace.specs.Kept.{state_of}
use Rattle.gh_trace.specs.Traces as plain
use Rattle.gh_trace.specs.declared.state.State.{State}
use Rattle.gh_trace.proofs.Insides.{contained_at}
use Rattle.gh_draw.specs.Drawings.{line, value_text, heap_line, state_lines, state_text, states_text, drawing}
use Rattle.gh_draw.specs.Drawn.{entry_text, kept_lines, kept_text, kept_texts, drawing_text, IsDrawnState, IsDrawnFor}

-- each entry is the first of its name
first_of_name : (es : List Entry) → AreDistinct es → (i : ℕ) (d : Entry) → i < length es
    → IsListedAt es (get_or es i d).name i
first_of_name es apart i d h = record {
  within = h;
  named = λ e. ap (λ (x : Entry). x.name) (get_or_default es i e d h);
  earlier = λ k e l same.
      let here : get_or (listed_names es) i [] ≡ (get_or es i d).name =
      get_or-map (λ (x : Entry). x.name) es i d [] h in
      let there : get_or (listed_names es) k [] ≡ (get_or es k e).name =
      get_or-map (λ (x : Entry). x.name) es k e [] (omega (arith, l, h)) in
      apart k i [] l (omega (arith, h, length-map es (λ (x : Entry). x.name))) (there ∙ (same ∙ sym here));
}

-- the store tells what its entries list
tells : (es : List Entry) → AreDistinct es → All (λ e. store_of es e.name ≡ e.value) es
tells es apart i d h = ap (λ o. unwrap_or o 0) (listed_here es (get_or es i d).name i d (first_of_name es apart i d h))

values_told : (x : plain.State) (es : List Entry) → All (λ e. x.store e.name ≡ e.value) es
    → flat_map entry_text es ≡ flat_map (value_text x) (listed_names es)
values_told x [] p = refl
values_told x (e ∷ es) p =
    let first : x.store e.name ≡ e.value = All-head (λ (y : Entry). x.store y.name ≡ y.value) e es p in
    let rest = values_told x es (All-tail (λ (y : Entry). x.store y.name ≡ y.value) e es p) in
    ap (λ v. (codes " " ++ e.name ++ codes "=" ++ decimal v) ++ flat_map entry_text es) (sym first)
    ∙ ap (λ z. value_text x e.name ++ z) rest

-- the lines of kept states are those of the states that they stand for
pub lines_told : (s : State) → AreDistinct s.store → kept_lines s ≡ state_lines (listed_names s.store) (state_of s)
lines_told s apart =
    ap (λ z. line (codes "store" ++ z) ++ line (heap_line s.heap))
    (values_told (state_of s) s.store (tells s.store apart))

state_told : (ns : List Name) (k : ℕ) (s : State) → AllPairs (λ x y. x ≢ y) ns → listed_names s.store ≡ ns
    → kept_text k s ≡ state_text ns k (state_of s)
state_told ns k s apart names =
    let distinct : AreDistinct s.store = subst (λ (zs : List Name). AllPairs (λ x y. x ≢ y) zs) (sym names) apart in
    ap (λ z. line (codes "state " ++ decimal k) ++ z)
    (lines_told s distinct ∙ ap (λ zs. state_lines zs (state_of s)) names)

states_told : (ns : List Name) (k : ℕ) (ss : List State) → AllPairs (λ x y. x ≢ y) ns → All (IsDrawnState ns) ss
    → kept_texts k ss ≡ states_text ns k (map state_of ss)
states_told ns k [] apart p = refl
states_told ns k (s ∷ ss) apart p =
    ap (λ z. z ++ kept_texts (suc k) ss) (state_told ns k s apart (All-head (IsDrawnState ns) s ss p).over)
    ∙ ap (λ z. state_text ns k (state_of s) ++ z) (states_told ns (suc k) ss apart (All-tail (IsDrawnState ns) s ss p))

drawing_apart : (d s : List ℕ)
    → ((codes "drawing\ncondition " ++ d) ++ codes "\n") ++ s ++ codes "end\n"
    ≡ (((codes "drawing" ++ (10 ∷ [])) ++ ((codes "condition " ++ d) ++ (10 ∷ []))) ++ s) ++ (codes "end" ++ (10 ∷ []))
drawing_apart d s = simp append_assoc

-- the text of a drawing of one state
pub one_told : (ns : List Name) (n : ℕ) (s : State) → AllPairs (λ x y. x ≢ y) ns → listed_names s.store ≡ ns
    → drawing_text n (s ∷ []) ≡ drawing n ns (state_of s ∷ [])
one_told ns n s apart names =
    drawing_apart (decimal n) (kept_text 0 s ++ [])
    ∙ ap (λ z. line (codes "drawing") ++ line (codes "condition " ++ decimal n) ++ (z ++ []) ++ line (codes "end"))
    (state_told ns 0 s apart names)

at_split : (before after : List Condition) (c : Condition) → slice_get (before ++ c ∷ after) (length before) ≡ Some c
at_split [] after c = refl
at_split (b ∷ before) after c = at_split before after c

-- the condition after all those before it has the next number
pub numbered_by_split : (P : Program) (n : ℕ) (c : Condition) (before after : List Condition)
    → conditions P ≡ before ++ c ∷ after → n ≡ length before + 1 → slice_get (conditions P) (n - 1) ≡ Some c
numbered_by_split P n c before after whole number =
    let place : n - 1 ≡ length before = omega (arith, number) in
    ap (λ k. slice_get (conditions P) k) place ∙ ap (λ cs. slice_get cs (length before)) whole ∙ at_split before after c

-- the condition of a number is one of the program
pub numbered_there : (P : Program) (n : ℕ) (c : Condition) → slice_get (conditions P) (n - 1) ≡ Some c
    → Contains (conditions P) c
numbered_there P n c numbered = (
  n - 1,
  slice_get_within (conditions P) (n - 1) c numbered,
  get_or_from_slice_get (conditions P) (n - 1) c c numbered,
)

names_apart : (P : Program) (c : Condition) (proc : Procedure) → IsTyped P → IsOf P c proc
    → AllPairs (λ x y. x ≢ y) (variable_names proc)
names_apart P c proc typed of = variables_are_distinct P typed proc (contained_at P.procedures c.procedure proc of)

pub numbered_told : (P : Program) (n : ℕ) (c : Condition) (proc : Procedure) (xs : List State) → IsTyped P
    → IsOf P c proc → All (IsDrawnState (variable_names proc)) xs
    → drawing_text n xs ≡ drawing n (variable_names proc) (map state_of xs)
numbered_told P n c proc xs typed of are =
    let ns = variable_names proc in
    drawing_apart (decimal n) (kept_texts 0 xs)
    ∙ ap (λ z. line (codes "drawing") ++ line (codes "condition " ++ decimal n) ++ z ++ line (codes "end"))
    (states_told ns 0 xs (names_apart P c proc typed of) are)

pub drawing_told : (P : Program) (n : ℕ) (xs : List State) → IsTyped P → (d : IsDrawnFor P n xs)
    → drawing_text n xs ≡ drawing n (variable_names d.procedure) (map state_of xs)
drawing_told P n xs typed d = numbered_told P n d.condition d.procedure xs typed d.of d.states
