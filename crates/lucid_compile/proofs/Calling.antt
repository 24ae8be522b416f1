-- The rows of calls, one after another.
use Rattle.lucid_compile.proofs.Common.{◌≡◌, ℕ, zero, suc, ◌+◌, ◌<◌, ◌≤◌, length, List, [], ◌∷◌, ◌++◌, map, take, get_or, slice_get, refl, sym, ap, ◌∙◌, subst, append_assoc, take_all, map-append, take_more, PlainNode, called_entry, NameRow, Body, Key, KeyLists, call_key, Lists, Note, Numbered, FunctionStand, Log, OneForOne, IsOpen, IsNameRow, NamesHold, IsBody, Holds, callee_number, row_of_call, call_row, row_by, rows_of_calls, with_names, with_calls, HasBody, IsNumber}
use Rattle.std.proofs.lemmas.List.{append-nil}
use Rattle.lucid_compile.specs.Static.{Static, outermost}
use Rattle.lucid_compile.specs.Holds.{nodes_in}
use Rattle.lucid_compile.proofs.Pairs.{pairs-join, pairs-made}
use Rattle.std.proofs.lemmas.Simd.{map-map}

call-entry : (w : Numbered) (at : ℕ) (ks : List Static) (ts : List PlainNode) (i : ℕ) (bs : List Body) (fs : List FunctionStand) (m : ℕ) → IsOpen ks 0 outermost
    → OneForOne (λ i b f. IsBody w ks ts b f) i bs fs → IsNameRow w ks ts (row_by (slice_get bs m)) (row_of_call at (slice_get fs m))
call-entry w at ks ts i [] [] m o h = (refl, o)
call-entry w at ks ts i [] (f ∷ fs) m o h = absurd h
call-entry w at ks ts i (x ∷ bs) [] m o h = absurd h
call-entry w at ks ts i (x ∷ bs) (f ∷ fs) zero o h = ((h.0.0, ap called_entry h.0.1), h.0.2)
call-entry w at ks ts i (x ∷ bs) (f ∷ fs) (suc m) o h = call-entry w at ks ts (suc i) bs fs m o h.1

-- the names' rows, and after them those of the calls
pub calls-held : (w : Numbered) (o : Lists) (g : Log) → Holds w o g
    → NamesHold w g.scopes (nodes_in w o) (with_calls w o).names (g.names ++ map (λ c. call_row w g.functions c.at) g.calls)
calls-held w o g h =
    let P : ℕ → NameRow → Note → Type 0 = λ i r s. IsNameRow w g.scopes (nodes_in w o) r s in
    let made : Key → NameRow = λ k. row_by (slice_get o.bodies (callee_number w k.at)) in
    let same : rows_of_calls w o.bodies o.keys.calls ≡ map (λ c. made (call_key c)) g.calls = ap (λ (k : KeyLists). map made k.calls) h.keys
    ∙ map-map made call_key g.calls in
    pairs-join P 0 o.names g.names (rows_of_calls w o.bodies o.keys.calls) (map (λ c. call_row w g.functions c.at) g.calls) h.names
    (subst (λ rs. OneForOne P (0 + length o.names) rs (map (λ c. call_row w g.functions c.at) g.calls)) (sym same)
    (pairs-made P (λ c. made (call_key c)) (λ c. call_row w g.functions c.at)
    (λ i c. call-entry w c.at g.scopes (nodes_in w o) 0 o.bodies g.functions (callee_number w c.at) h.outer h.functions) (0 + length o.names) g.calls))

-- their bodies have the numbers of the functions' right sides
call-body : (ns : List Note) (at : ℕ) (i : ℕ) (bs : List Body) (fs : List FunctionStand) (m : ℕ) → OneForOne (λ i b f. IsNumber ns b.body f.right) i bs fs
    → HasBody ns (row_by (slice_get bs m)).kind (row_of_call at (slice_get fs m)).kind
call-body ns at i [] [] m h = refl
call-body ns at i [] (f ∷ fs) m h = absurd h
call-body ns at i (b ∷ bs) [] m h = absurd h
call-body ns at i (b ∷ bs) (f ∷ fs) zero h = (b.body, refl, h.0)
call-body ns at i (b ∷ bs) (f ∷ fs) (suc m) h = call-body ns at (suc i) bs fs m h.1

pub bodies-held : (w : Numbered) (o : Lists) (g : Log) → Holds w o g
    → OneForOne (λ i r n. HasBody g.nodes r.kind n.kind) 0 (with_calls w o).names (g.names ++ map (λ c. call_row w g.functions c.at) g.calls)
bodies-held w o g h =
    let P : ℕ → NameRow → Note → Type 0 = λ i r n. HasBody g.nodes r.kind n.kind in
    let made : Key → NameRow = λ k. row_by (slice_get o.bodies (callee_number w k.at)) in
    let same : rows_of_calls w o.bodies o.keys.calls ≡ map (λ c. made (call_key c)) g.calls = ap (λ (k : KeyLists). map made k.calls) h.keys
    ∙ map-map made call_key g.calls in
    pairs-join P 0 o.names g.names (rows_of_calls w o.bodies o.keys.calls) (map (λ c. call_row w g.functions c.at) g.calls) h.numbers.bodies
    (subst (λ rs. OneForOne P (0 + length o.names) rs (map (λ c. call_row w g.functions c.at) g.calls)) (sym same)
    (pairs-made P (λ c. made (call_key c)) (λ c. call_row w g.functions c.at)
    (λ i c. call-body g.nodes c.at 0 o.bodies g.functions (callee_number w c.at) h.numbers.rights) (0 + length o.names) g.calls))

-- the rows of the calls before an index
pub calls-none : (w : Numbered) (o : Lists) → o ≡ with_names (o.names ++ rows_of_calls w o.bodies (take 0 o.keys.calls)) o
calls-none w o = ap (λ rs. with_names rs o) (sym (append-nil o.names))

pub calls-more : (w : Numbered) (o c : Lists) (i : ℕ) (k : Key) (r : NameRow) → c ≡ with_names (o.names ++ rows_of_calls w o.bodies (take i o.keys.calls)) o
    → i < length c.keys.calls → get_or c.keys.calls i k ≡ k → r ≡ row_by (slice_get c.bodies (callee_number w k.at))
    → with_names (c.names ++ r ∷ []) c ≡ with_names (o.names ++ rows_of_calls w o.bodies (take (i + 1) o.keys.calls)) o
calls-more w o c i k r same h here is =
    let made : Key → NameRow = λ k. row_by (slice_get o.bodies (callee_number w k.at)) in
    let before : List NameRow = rows_of_calls w o.bodies (take i o.keys.calls) in
    let calls : c.keys.calls ≡ o.keys.calls = ap (λ (l : Lists). l.keys.calls) same in
    let within : i < length o.keys.calls = subst (λ l. i < length l) calls h in
    let next : take (i + 1) o.keys.calls ≡ take i o.keys.calls ++ k ∷ [] = take_more o.keys.calls i k within
    ∙ ap (λ y. take i o.keys.calls ++ y ∷ []) (ap (λ l. get_or l i k) (sym calls) ∙ here) in
    let row : r ≡ made k = is ∙ ap (λ (l : Lists). row_by (slice_get l.bodies (callee_number w k.at))) same in
    let rows : rows_of_calls w o.bodies (take (i + 1) o.keys.calls) ≡ before ++ r ∷ [] = ap (map made) next ∙ map-append made (take i o.keys.calls) (k ∷ [])
    ∙ ap (λ y. before ++ y ∷ []) (sym row) in
    ap (λ (l : Lists). with_names (l.names ++ r ∷ []) l) same
    ∙ ap (λ rs. with_names rs o) (append_assoc o.names before (r ∷ []) ∙ ap (λ l. o.names ++ l) (sym rows))

pub calls-all : (w : Numbered) (o c : Lists) (i : ℕ) → c ≡ with_names (o.names ++ rows_of_calls w o.bodies (take i o.keys.calls)) o → length c.keys.calls ≤ i
    → c ≡ with_calls w o
calls-all w o c i same h =
    let past : length o.keys.calls ≤ i = subst (λ (l : Lists). length l.keys.calls ≤ i) same h in
    same ∙ ap (λ cs. with_names (o.names ++ rows_of_calls w o.bodies cs) o) (take_all i o.keys.calls past)
