-- What each step makes of a certificate in the making.
use Rattle.lucid_cert.proofs.Common.{◌≡◌, ℕ, ◌<◌, true, false, List, [], ◌∷◌, ◌++◌, map, length, Some, refl, sym, ap, ◌∙◌, inl, inr, subst, arith, append_assoc, length-append, ◌^◌, list_any, AllByRecursion, append-nil, slice_get-push_same, Elements, Context, same_key, IsOneForOne, KeepsKnown, context_of, number_of, tag_of, Key, Table, PlainJudgment, MayShowJudgment, FollowsIn, Judged, context_in, given, used, ArePlaces, AreTimes, Position, AreFollowing, Each, FollowAmong, GivesBy, Goes, Grows, IsJudgmentAt, IsMade, IsSoundMaker, IsSoundBy, IsWaiting, MayJudge, RootStands, Settles, Spot, judgments_of, spot_at, spot_by, spot_of, table_in, Maker, Making}
use Rattle.lucid_lists.proofs.Numbers.{below_or_last}
use Rattle.lucid_texts.specs.Words.{AreBelow}
use Rattle.lucid_cert.specs.Makers.{made, waits}
use Rattle.lucid_demand_steps.proofs.Owning.{known_itself}
use Rattle.lucid_cert.proofs.Growing.{follow_still, in_known, judged_alike, left_of}
use Rattle.lucid_cert.proofs.Keeping.{apart_more, each_more, is_there, keys_more}
use Rattle.lucid_cert.proofs.Forming.{waiting_still}

-- what is said of parts that are a maker's is said of it
pub sound_of : (m : Maker) (T : Table) (known : List Context) (keys : List Key) (js : List PlainJudgment) (waiting : List Making) → table_in m ≡ T
    → m.tags ≡ known → m.keys.keys ≡ keys → judgments_of m ≡ js
    → m.waiting.items ≡ waiting → IsSoundBy T known keys js waiting → IsSoundMaker m
sound_of m T known keys js waiting a b c d e h =
    subst (λ x. IsSoundBy (table_in m) m.tags m.keys.keys (judgments_of m) x) (sym e) (subst (λ x. IsSoundBy (table_in m) m.tags m.keys.keys x waiting) (sym d)
    (subst (λ x. IsSoundBy (table_in m) m.tags x js waiting) (sym c)
    (subst (λ x. IsSoundBy (table_in m) x keys js waiting) (sym b) (subst (λ x. IsSoundBy x known keys js waiting) (sym a) h))))

pub follow_of : (b : Elements) (m : Maker) (T : Table) (known : List Context) (js : List PlainJudgment) → table_in m ≡ T → m.tags ≡ known → judgments_of m ≡ js
    → FollowAmong T b known js → AreFollowing b m
follow_of b m T known js p q r h =
    subst (λ x. FollowAmong (table_in m) b m.tags x) (sym r)
    (subst (λ x. FollowAmong (table_in m) b x js) (sym q) (subst (λ x. FollowAmong x b known js) (sym p) h))

-- contexts, and judgments behind, are added
still_waits : (T : Table) (old new : List Context) → KeepsKnown old new → (js more : List PlainJudgment) (waiting : List Making)
    → Each (IsWaiting T old js) waiting → Each (IsWaiting T new (js ++ more)) waiting
still_waits T old new keeps js more waiting h i w e = waiting_still T old new keeps js more w (h i w e)

-- another context is known
module _ (T : Table) (old new : List Context) (keeps : KeepsKnown old new) (keys : List Key) (js : List PlainJudgment) (waiting : List Making)
    (s : IsSoundBy T old keys js waiting) where
  still_in : (j : PlainJudgment) → j.context < length old → j.context < length new
  still_in j h = keeps.known (tag_of j.context) h

  same_waits : Each (IsWaiting T new js) waiting
  same_waits = subst (λ (x : List PlainJudgment). Each (IsWaiting T new x) waiting) (append-nil js) (still_waits T old new keeps js [] waiting s.waits)

  pub sound_known : IsOneForOne new → AreTimes new → ArePlaces (length T.places) new → IsSoundBy T new keys js waiting
  sound_known once times places = record {
    once = once;
    times = times;
    places = places;
    keys_of = s.keys_of;
    apart = s.apart;
    shown = s.shown;
    contexts = λ i j e. still_in j (s.contexts i j e);
    waits = same_waits;
  }

  pub follow_known : (b : Elements) → FollowAmong T b old js → FollowAmong T b new js
  follow_known b f i l = subst (λ (x : List PlainJudgment). FollowsIn T b (map Some new) x i) (append-nil js) (follow_still T b old new keeps js f [] i l)

-- A judgment waits.
pub sound_waiting : (T : Table) (known : List Context) (keys : List Key) (js : List PlainJudgment) (waiting : List Making) (w : Making)
    → IsSoundBy T known keys js waiting → IsWaiting T known js w
    → IsSoundBy T known keys js (waiting ++ w ∷ [])
sound_waiting T known keys js waiting w s h = record {
  once = s.once;
  times = s.times;
  places = s.places;
  keys_of = s.keys_of;
  apart = s.apart;
  shown = s.shown;
  contexts = s.contexts;
  waits = each_more (IsWaiting T known js) waiting w s.waits h;
}

pub grows_known : (m : Maker) (T : Table) (known : List Context) (js : List PlainJudgment) → table_in m ≡ T → KeepsKnown known m.tags → judgments_of m ≡ js
    → Grows T known js m
grows_known m T known js p q r = record { table = p; keeps = q; more = []; judgments = r ∙ sym (append-nil js) }

pub grows_none : (m : Maker) (T : Table) (known : List Context) (js : List PlainJudgment) → table_in m ≡ T → m.tags ≡ known → judgments_of m ≡ js
    → Grows T known js m
grows_none m T known js p q r =
    record { table = p; keeps = subst (KeepsKnown known) (sym q) (known_itself known); more = []; judgments = r ∙ sym (append-nil js) }

module _ (old new : Maker) (table : table_in new ≡ table_in old) (known : new.tags ≡ old.tags) (keys : new.keys.keys ≡ old.keys.keys)
    (js : judgments_of new ≡ judgments_of old) where
  pub goes_waiting : (w : Making) → new.waiting.items ≡ old.waiting.items ++ w ∷ [] → IsSoundMaker old → IsWaiting (table_in old) old.tags (judgments_of old) w
      → Goes old new w.at w.space
  goes_waiting w e s h = record {
    sound = sound_of new (table_in old) old.tags old.keys.keys (judgments_of old) (old.waiting.items ++ w ∷ []) table known keys js e
        (sound_waiting (table_in old) old.tags old.keys.keys (judgments_of old) old.waiting.items w s h);
    grows = grows_none new (table_in old) old.tags (judgments_of old) table known js;
    settles = waits w [] e refl refl;
  }

  -- It was made before.
  pub goes_made_before : (at : Position) (space : ℕ) (key : Key) → spot_by key ≡ spot_at at space → new.waiting.items ≡ old.waiting.items → IsSoundMaker old
      → list_any (same_key key) old.keys.keys ≡ true → Goes old new at space
  goes_made_before at space key spot e s there = record {
    sound = sound_of new (table_in old) old.tags old.keys.keys (judgments_of old) old.waiting.items table known keys js e s;
    grows = grows_none new (table_in old) old.tags (judgments_of old) table known js;
    settles = made e (subst (λ (xs : List PlainJudgment). IsMade xs at space) (sym js)
        (let p = is_there old.keys.keys (judgments_of old) s.keys_of key there in (p.0, subst (λ x. IsJudgmentAt (judgments_of old) x p.0) spot p.1)));
  }

-- A judgment is made.
few_below : (us : List ℕ) (n : ℕ) → n < 2 ^ 32 → AllByRecursion (λ u. u < n) us → AreBelow (2 ^ 32) us
few_below [] n l h = tt
few_below (u ∷ us) n l h = (omega (arith, l, h.0), few_below us n l h.1)

module _ (T : Table) (known : List Context) (keys : List Key) (js : List PlainJudgment) (at : Position) (space : ℕ) (may : MayJudge T known at space)
    (j : PlainJudgment) (its : spot_of j ≡ spot_at at space) where
  its_node : j.node ≡ at.node
  its_node = ap (λ (x : Spot). x.node) its

  its_context : j.context ≡ number_of at.context
  its_context = ap (λ (x : Spot). x.context) its

  its_time : j.time ≡ at.time
  its_time = ap (λ (x : Spot). x.time) its

  its_space : j.space ≡ space
  its_space = ap (λ (x : Spot). x.space) its

  pub sound_made : (waiting : List Making) → IsSoundBy T known keys js waiting → (key : Key) → spot_by key ≡ spot_at at space
      → list_any (same_key key) keys ≡ false → length js < 2 ^ 32 → length j.uses < 2 ^ 32
      → AllByRecursion (λ u. u < length js) j.uses → IsSoundBy T known (keys ++ key ∷ []) (js ++ j ∷ []) waiting
  sound_made waiting s key spot absent few fewer earlier = record {
    once = s.once;
    times = s.times;
    places = s.places;
    keys_of = keys_more keys js s.keys_of key j (its ∙ sym spot);
    apart = apart_more keys js s.keys_of key j (its ∙ sym spot) absent s.apart;
    shown = each_more MayShowJudgment js j s.shown
        (record {
          time = omega (arith, its_time, may.within.time);
          space = omega (arith, its_space, may.space_in_range);
          few = fewer;
          uses = few_below j.uses (length js) few earlier;
        });
    contexts = each_more (λ (x : PlainJudgment). x.context < length known) js j s.contexts (omega (arith, its_context, may.context.known_tag));
    waits = still_waits T known known (known_itself known) js (j ∷ []) waiting s.waits;
  }

  pub made_last : IsMade (js ++ j ∷ []) at space
  made_last = (length js, record { judgment = j; there = slice_get-push_same js j; its_spot = its })

  -- It follows where its node gives its value.
  pub follow_made : (b : Elements) → GivesBy T b known js at space j.uses j.value → FollowAmong T b known js → FollowAmong T b known (js ++ j ∷ [])
  follow_made b gives follow i l = elim (below_or_last i (length js) (omega (arith, l, length-append js (j ∷ [])))) [
    | inl h ↦ follow_still T b known known (known_itself known) js follow (j ∷ []) i h
    | inr e ↦ subst (FollowsIn T b (map Some known) (js ++ j ∷ [])) (sym e) one
  ]
    where
      earlier : ◌≡◌ {A = Judged} (used (map Some known) (js ++ j ∷ []) (length js)) (used (map Some known) js (length js))
      earlier = judged_alike (map Some known) (map Some known) js (js ++ j ∷ []) (length js) (left_of js (j ∷ [])) (λ u k h e. refl)

      its_gives : given T b (used (map Some known) (js ++ j ∷ []) (length js)) at.node (context_of known at.context) at.time space j.uses ≡ Some j.value
      its_gives = ap (λ (value : Judged). given T b value at.node (context_of known at.context) at.time space j.uses) earlier ∙ gives

      one : FollowsIn T b (map Some known) (js ++ j ∷ []) (length js)
      one = record {
        judgment = j;
        there = slice_get-push_same js j;
        context = context_of known at.context;
        form = record {
          time = omega (arith, its_time, may.within.time);
          space = omega (arith, its_space, may.space_in_range);
          node = omega (arith, its_node, may.within.node);
          context = ap (λ n. context_in (map Some known) n) its_context ∙ in_known known (number_of at.context) may.context.known_tag;
        };
        gives =
            subst (λ n. given T b (used (map Some known) (js ++ j ∷ []) (length js)) n (context_of known at.context) j.time j.space j.uses ≡ Some j.value)
            (sym its_node)
            (subst (λ t. given T b (used (map Some known) (js ++ j ∷ []) (length js)) at.node (context_of known at.context) t j.space j.uses ≡ Some j.value)
            (sym its_time)
            (subst (λ s. given T b (used (map Some known) (js ++ j ∷ []) (length js)) at.node (context_of known at.context) at.time s j.uses ≡ Some j.value)
            (sym its_space) its_gives));
      }

pub goes_made : (old new : Maker) (at : Position) (space : ℕ) (j : PlainJudgment) (key : Key) → table_in new ≡ table_in old → new.tags ≡ old.tags
    → new.keys.keys ≡ old.keys.keys ++ key ∷ []
    → judgments_of new ≡ judgments_of old ++ j ∷ [] → new.waiting.items ≡ old.waiting.items → IsSoundMaker old → MayJudge (table_in old) old.tags at space
    → spot_of j ≡ spot_at at space → spot_by key ≡ spot_at at space
    → list_any (same_key key) old.keys.keys ≡ false → length (judgments_of old) < 2 ^ 32 → length j.uses < 2 ^ 32
    → AllByRecursion (λ u. u < length (judgments_of old)) j.uses → Goes old new at space
goes_made old new at space j key table known keys js waiting s may its spot absent few fewer earlier = record {
  sound = sound_of new (table_in old) old.tags (old.keys.keys ++ key ∷ []) (judgments_of old ++ j ∷ []) old.waiting.items table known keys js waiting
      (sound_made (table_in old) old.tags old.keys.keys (judgments_of old) at space may j its old.waiting.items s key spot absent few fewer earlier);
  grows = record { table = table; keeps = subst (KeepsKnown old.tags) (sym known) (known_itself old.tags); more = j ∷ []; judgments = js };
  settles = made waiting (subst (λ (xs : List PlainJudgment). IsMade xs at space) (sym js)
      (made_last (table_in old) old.tags old.keys.keys (judgments_of old) at space may j its));
}

pub follow_more : (old new : Maker) (at : Position) (space : ℕ) (j : PlainJudgment) → table_in new ≡ table_in old → new.tags ≡ old.tags
    → judgments_of new ≡ judgments_of old ++ j ∷ []
    → MayJudge (table_in old) old.tags at space → spot_of j ≡ spot_at at space → (b : Elements)
    → GivesBy (table_in old) b old.tags (judgments_of old) at space j.uses j.value → AreFollowing b old → AreFollowing b new
follow_more old new at space j table known js may its b gives follow =
    follow_of b new (table_in old) old.tags (judgments_of old ++ j ∷ []) table known js
    (follow_made (table_in old) old.tags old.keys.keys (judgments_of old) at space may j its b gives follow)

grows_then : (old mid new : Maker) → Grows (table_in old) old.tags (judgments_of old) mid → Grows (table_in mid) mid.tags (judgments_of mid) new
    → Grows (table_in old) old.tags (judgments_of old) new
grows_then old mid new g h = record {
  table = h.table ∙ g.table;
  keeps = record { known = λ tag k. h.keeps.known tag (g.keeps.known tag k); same = λ tag k. h.keeps.same tag (g.keeps.known tag k) ∙ g.keeps.same tag k };
  more = g.more ++ h.more;
  judgments = h.judgments ∙ (ap (λ js. js ++ h.more) g.judgments ∙ append_assoc (judgments_of old) g.more h.more);
}

-- One step after another: contexts become known,
pub goes_later : (old mid new : Maker) (at : Position) (space : ℕ) → Grows (table_in old) old.tags (judgments_of old) mid
    → mid.waiting.items ≡ old.waiting.items → Goes mid new at space → Goes old new at space
goes_later old mid new at space g e h = record { sound = h.sound; grows = grows_then old mid new g h.grows; settles = settles_from h.settles }
  where
    settles_from : Settles mid.waiting.items new at space → Settles old.waiting.items new at space
    settles_from s = subst (λ ws. Settles ws new at space) e s

-- or one waits, for another that begins.
pub goes_behind : (old mid new : Maker) (at : Position) (space : ℕ) (w : Making) → Grows (table_in old) old.tags (judgments_of old) mid
    → mid.waiting.items ≡ old.waiting.items ++ w ∷ [] → Goes mid new at space
    → Goes old new w.at w.space
goes_behind old mid new at space w g e h = record { sound = h.sound; grows = grows_then old mid new g h.grows; settles = behind h.settles }
  where
    behind : Settles mid.waiting.items new at space → Settles old.waiting.items new w.at w.space
    behind (waits x more f p q) = waits w (x ∷ more) (f ∙ (ap (λ ws. ws ++ x ∷ more) e ∙ append_assoc old.waiting.items (w ∷ []) (x ∷ more))) refl refl
    behind (made f p) = waits w [] (f ∙ e) refl refl

-- The root stands, whichever judgment steps.
pub root_first : (root : Position) (new : Maker) → Settles [] new root 0 → RootStands root new.waiting.items (judgments_of new)
root_first root new (waits w more e p q) = subst (λ ws. RootStands root ws (judgments_of new)) (sym e) (p, q)
root_first root new (made e m) = subst (λ ws. RootStands root ws (judgments_of new)) (sym e) m

module _ (root : Position) (old new : Maker) (w : Making) where
  -- where others wait, the outermost one stays it,
  stays_out : (x : Making) (xs : List Making) → old.waiting.items ≡ x ∷ xs → (x.at ≡ root) × (x.space ≡ 0) → Settles old.waiting.items new w.at w.space
      → RootStands root new.waiting.items (judgments_of new)
  stays_out x xs e r (waits y more f p q) = subst (λ ws. RootStands root ws (judgments_of new)) (sym (f ∙ ap (λ ws. ws ++ y ∷ more) e)) r
  stays_out x xs e r (made f m) = subst (λ ws. RootStands root ws (judgments_of new)) (sym (f ∙ e)) r

  -- and where none does, it is the one that steps
  stays_alone : old.waiting.items ≡ [] → (w.at ≡ root) × (w.space ≡ 0) → Settles old.waiting.items new w.at w.space
      → RootStands root new.waiting.items (judgments_of new)
  stays_alone e r s =
      root_first root new (subst (λ x. Settles [] new root x) r.1 (subst (λ x. Settles [] new x w.space) r.0 (subst (λ ws. Settles ws new w.at w.space) e s)))

  pub root_stays : (js : List PlainJudgment) → RootStands root (old.waiting.items ++ w ∷ []) js → Settles old.waiting.items new w.at w.space
      → RootStands root new.waiting.items (judgments_of new)
  root_stays js r s = by_waiting old.waiting.items refl
    where
      by_waiting : (ws : List Making) → old.waiting.items ≡ ws → RootStands root new.waiting.items (judgments_of new)
      by_waiting [] e = stays_alone e (subst (λ ws. RootStands root (ws ++ w ∷ []) js) e r) s
      by_waiting (x ∷ xs) e = stays_out x xs e (subst (λ ws. RootStands root (ws ++ w ∷ []) js) e r) s
