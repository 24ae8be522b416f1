-- A maker as it begins, what waits innermost, and what keys are found.
use Rattle.lucid_cert.proofs.Common.{◌≡◌, ℕ, zero, suc, ◌≤◌, Bool, true, false, cond, List, [], ◌∷◌, ◌++◌, length, Option, Some, None, refl, sym, ap, ◌∙◌, subst, arith, Result, Ok, Err, IfErr, IfSome, IsErrAnd, option_to_list, slice_get, find, same_Some, slice_get-push_same, Context, root, same_key, IsOneForOne, number_of, space_of, Key, EachBelow, Table, DemandFault, NoMemory, PlainJudgment, ArePlaces, AreTimes, Position, AreKeysOf, Each, IsJudgmentAt, IsSoundBy, Spot, spot_at, spot_by, spot_of, IsOwn, Making}
use Rattle.lucid_cert.proofs.Keeping.{each_fewer, judgment_of_key, same_spot}

-- the empty context alone has no frozen time and no call place
root_times : AreTimes (root ∷ [])
root_times zero t c e = absurd (cc)
root_times (suc i) t c e = absurd (cc)

root_places : (places : ℕ) → ArePlaces places (root ∷ [])
root_places places zero at c d e = absurd (cc)
root_places places (suc i) at c d e = absurd (cc)

nothing_sound : (T : Table) → IsOneForOne (root ∷ []) → IsSoundBy T (root ∷ []) [] [] []
nothing_sound T once = record {
  once = once;
  times = root_times;
  places = root_places (length T.places);
  keys_of = refl;
  apart = λ i k j l e f same. absurd (cc);
  shown = λ i j e. absurd (cc);
  contexts = λ i j e. absurd (cc);
  waits = λ i w e. absurd (cc);
}

-- Nothing is made, and nothing waits.
pub new_sound : (T : Table) (known : List Context) (keys : List Key) (js : List PlainJudgment) (waiting : List Making) → known ≡ root ∷ [] → IsOneForOne known
    → keys ≡ [] → js ≡ [] → waiting ≡ [] → IsSoundBy T known keys js waiting
new_sound T known keys js waiting e once f g h =
    subst (λ x. IsSoundBy T known keys js x) (sym h) (subst (λ x. IsSoundBy T known keys x []) (sym g) (subst (λ x. IsSoundBy T known x [] []) (sym f)
    (subst (λ x. IsSoundBy T x [] [] []) (sym e) (nothing_sound T (subst IsOneForOne e once)))))

-- What waits innermost is taken.
pub fewer_sound : (T : Table) (known : List Context) (keys : List Key) (js : List PlainJudgment) (waiting fewer more : List Making) → waiting ≡ fewer ++ more
    → IsSoundBy T known keys js waiting → IsSoundBy T known keys js fewer
fewer_sound T known keys js waiting fewer more e s = record {
  once = s.once;
  times = s.times;
  places = s.places;
  keys_of = s.keys_of;
  apart = s.apart;
  shown = s.shown;
  contexts = s.contexts;
  waits = each_fewer _ fewer more (subst (Each _) e s.waits);
}

pub innermost_has : {X : Type 0} (P : X → Type 0) (xs ys : List X) (o : Option X) → xs ≡ ys ++ option_to_list o → Each P xs → IfSome o P
innermost_has P xs ys None e h = tt
innermost_has P xs ys (Some x) e h = subst (Each P) e h (length ys) x (slice_get-push_same ys x)

-- The judgment of a key that is found.
found_first : (x : Key) (xs : List Key) (key k : Key) (b : Bool) → same_key key x ≡ b → (Some k ≡ find (same_key key) xs → same_key key k ≡ true)
    → Some k ≡ find (same_key key) (x ∷ xs) → same_key key k ≡ true
found_first x xs key k true h further e =
    let same : k ≡ x = same_Some k x (e ∙ ap (λ b. cond b (Some x) (find (same_key key) xs)) h) in subst (λ y. same_key key y ≡ true) (sym same) h
found_first x xs key k false h further e = further (e ∙ ap (λ b. cond b (Some x) (find (same_key key) xs)) h)

pub found_key : (keys : List Key) (key k : Key) → Some k ≡ find (same_key key) keys → same_key key k ≡ true
found_key [] key k e = absurd (cc)
found_key (x ∷ xs) key k e = found_first x xs key k (same_key key x) refl (found_key xs key k) e

pub judgment_found : (keys : List Key) (js : List PlainJudgment) (of : AreKeysOf keys js) (key k : Key) (i : ℕ) (spot : Spot) → slice_get keys i ≡ Some k
    → Some k ≡ find (same_key key) keys → spot_by key ≡ spot → IsJudgmentAt js spot i
judgment_found keys js of key k i spot there found is =
    subst (λ s. IsJudgmentAt js s i) (sym (same_spot key k (found_key keys key k found)) ∙ is) (judgment_of_key keys js of i k there)

-- want of memory is no refusal of an input
pub own_memory : (r : Result (Unit {0}) DemandFault) → IsErrAnd r (λ e. e ≡ NoMemory) → IfErr r IsOwn
own_memory (Ok x) h = tt
own_memory (Err e) h = subst IsOwn (sym h) tt

-- numbers below a number are below a greater one
pub each_below : (n m : ℕ) (is : List ℕ) → n ≤ m → EachBelow n is → EachBelow m is
each_below n m [] h k = tt
each_below n m (i ∷ is) h k = (omega (arith, h, k.0), each_below n m is h k.1)

-- a key by its parts
pub by_parts : (k : Key) (at : Position) (space : ℕ) → k.name ≡ at.node → number_of k.tag ≡ number_of at.context → k.time ≡ at.time → space_of k.tag ≡ space
    → spot_by k ≡ spot_at at space
by_parts k at space a b c d i = record { node = a i; context = b i; time = c i; space = d i }

-- a judgment by its parts
pub placed : (j : PlainJudgment) (at : Position) (space : ℕ) → j.node ≡ at.node → j.context ≡ number_of at.context → j.time ≡ at.time → j.space ≡ space
    → spot_of j ≡ spot_at at space
placed j at space a b c d i = record { node = a i; context = b i; time = c i; space = d i }

-- a refusal that is that of a call
pub for_refused : {A : Type 0} (P : Result A DemandFault → Type 0) (r : Result A DemandFault) (f : DemandFault) → IsErrAnd r (λ e. e ≡ f) → P (Err f) → P r
for_refused P (Ok x) f h p = absurd h
for_refused P (Err e) f h p = subst (λ z. P (Err z)) (sym h) p

pub memory_alone : {A : Type 0} (r : Result A DemandFault) → IsErrAnd r (λ e. e ≡ NoMemory) → IfErr r (λ e. e ≡ NoMemory)
memory_alone (Ok x) h = tt
memory_alone (Err e) h = h
