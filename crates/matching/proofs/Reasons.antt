-- All the laws.
use Rattle.std.proofs.Common.{◌≡◌, ℕ, ◌+◌, ◌≤◌, Bool, true, List, [], ◌∷◌, ◌++◌, sym, refl, ap, ◌∙◌, subst, arith}
use Rattle.tokens.specs.declared.token.Token.{Token}
use Rattle.matching.specs.declared.refusal.MatcherRefusal.{MatcherRefusal}
use Rattle.matching.specs.declared.refusal.MatcherRefusal.TheVariants.{Differs, Unmatched, Par, TooLong}
use Rattle.matching.specs.Dividing.{Parameters, AllPermitted, Division, most}
use Rattle.matching.specs.Matching.{on, out, Phase, matched, refused, Step, refuse, begin, feed_within, Run, still, over, matching_within, matching}
use Rattle.matching.specs.Laws.{Lawful, Shaped, Permitting, Divisible, Possible, Impossible, Reason, Laws}
use Rattle.matching.proofs.Resting.{Comes}
use Rattle.matching.proofs.Valid.{Valid, ValidStep}
use Rattle.matching.proofs.Living.{lives}
use Rattle.matching.proofs.Headings.{begun, begun_back}
use Rattle.matching.proofs.Telling.{Unrefused, Eases, Told, told, still_eased}
use Rattle.matching.proofs.Standing.{Along, Sound, along, sound, kept, last_step, after_last, Within, valid, answer, found, hopeless, continues, live, unique}

all_long : (args : List (List Token)) → AllPermitted true args
all_long [] = tt
all_long (a ∷ args) = (refl, all_long args)

-- a step that is not refused may be followed
alive : (limit : ℕ) (long : Bool) (s : Step) → ValidStep limit long s → Unrefused s → (us : List Token) × (args : List (List Token)) × Comes limit long s us args
alive limit long (on h) v u = lives limit long h v
alive limit long (out (matched args)) v u = ([], args, (refl, refl))
alive limit long (out (refused r)) v u = absurd u

module _ (p : Parameters) (lawful : Lawful p) (long : Bool) where
  to_division : (ts : List Token) (args : List (List Token)) → Within p most long ts args → Division p long ts args
  to_division ts args w = record { counted = w.counted; shape = w.shape; permitted = w.permitted; fits = w.fits }

  from_division : (ts : List Token) (args : List (List Token)) → Division p long ts args → Within p most long ts args
  from_division ts args d = record { counted = d.counted; shape = d.shape; permitted = d.permitted; fits = d.fits }

  same : most ≤ most
  same = omega arith

  may : (ts : List Token) → (more : List Token) × (args : List (List Token)) × Within p most long (ts ++ more) args → Possible (Divisible p long) ts
  may ts i = (i.0, (i.1, to_division (ts ++ i.0) i.1 i.2))

  module _ (ts : List Token) (t : Token) (r : MatcherRefusal) (e : matching long (begin p) (ts ++ t ∷ []) ≡ over (refused r) []) where
    last : (h : Phase) × (matching_within most long (begin p) ts ≡ still h) × (feed_within most long h t ≡ refuse r)
    last = last_step most long (begin p) ts t (refused r) e

    possible_before : Possible (Divisible p long) ts
    possible_before = may ts (live p lawful most long same ts last.0 last.1)

    impossible_at : Impossible (Divisible p long) (ts ++ t ∷ [])
    impossible_at more d = hopeless p lawful most long same (ts ++ t ∷ []) r e more d.0 (from_division ((ts ++ t ∷ []) ++ more) d.0 d.1)

  -- under another limit, and for a long macro
  module _ (ts : List Token) (t : Token) (h : Phase) (e : matching_within most long (begin p) ts ≡ still h) (limit : ℕ) (l : Bool) (enough : most ≤ limit) (eases : Eases most long l) where
    reached : matching_within limit l (begin p) ts ≡ still h
    reached = still_eased most long limit l enough eases (begin p) ts h e

    behind : matching_within limit l (begin p) (ts ++ t ∷ []) ≡ matching_within limit l (feed_within limit l h t) []
    behind = after_last limit l (begin p) ts t h reached

    refused_there : (r : MatcherRefusal) → feed_within limit l h t ≡ refuse r → (more : List Token) (args : List (List Token)) → Within p limit l ((ts ++ t ∷ []) ++ more) args → ⊥
    refused_there r f more args w =
        hopeless p lawful limit l enough (ts ++ t ∷ []) r (behind ∙ ap (λ (s : Step). matching_within limit l s []) f) more args w

    possible_there : Unrefused (feed_within limit l h t) → (more : List Token) × (args : List (List Token)) × Within p limit l ((ts ++ t ∷ []) ++ more) args
    possible_there u =
        let v : Valid limit l h = subst (Sound limit l) reached (sound limit l (begin p) (valid p lawful limit l enough) ts) in
        let i = alive limit l (feed_within limit l h t) (kept limit l h v t) u in (
          i.0,
          i.1,
          continues p lawful limit l enough (ts ++ t ∷ []) i.0 i.1
              (subst (λ (k : Run). Along limit l k i.0 i.1) (sym behind) (along limit l (feed_within limit l h t) (kept limit l h v t) [] i.0 i.1 i.2)),
        )

  itself : Eases most long long
  itself now h = h

  true_eases : Eases most long true
  true_eases now h = refl

  module _ (ts : List Token) (t : Token) (h : Phase) (e : matching_within most long (begin p) ts ≡ still h) where
    no_shape : ((n : ℕ) (l : Bool) → feed_within n l h t ≡ refuse Unmatched) → Impossible (Shaped p) (ts ++ t ∷ [])
    no_shape f more s =
        refused_there ts t h e (most + s.1) true (omega arith) true_eases Unmatched (f (most + s.1) true) more s.0 (record { counted = s.1; shape = s.2; permitted = all_long s.0; fits = omega arith })

    no_permitted : ((n : ℕ) → feed_within n long h t ≡ refuse Par) → Impossible (Permitting p long) (ts ++ t ∷ [])
    no_permitted f more s =
        refused_there ts t h e (most + s.1) long (omega arith) itself Par (f (most + s.1)) more s.0 (record { counted = s.1; shape = s.2; permitted = s.3; fits = omega arith })

    some_shape : (n : ℕ) × (most ≤ n) × Unrefused (feed_within n true h t) → Possible (Shaped p) (ts ++ t ∷ [])
    some_shape i = let k = possible_there ts t h e i.0 true i.1 true_eases i.2 in (k.0, (k.1, k.2.counted, k.2.shape))

    some_permitted : (n : ℕ) × (most ≤ n) × Unrefused (feed_within n long h t) → Possible (Permitting p long) (ts ++ t ∷ [])
    some_permitted i = let k = possible_there ts t h e i.0 long i.1 itself i.2 in (k.0, (k.1, k.2.counted, k.2.shape, k.2.permitted))

  reason_by : (ts : List Token) (t : Token) (r : MatcherRefusal) → matching long (begin p) (ts ++ t ∷ []) ≡ over (refused r) [] → (h : Phase) → matching_within most long (begin p) ts ≡ still h → Told most long (λ n l. feed_within n l h t) (refuse r) → Reason p long (ts ++ t ∷ []) r
  reason_by ts t Differs e h f w = λ more b. begun most long p (ts ++ t ∷ []) (refused Differs) e more b
  reason_by ts t Unmatched e h f w = (([], begun_back most long p (ts ++ t ∷ []) (refused Unmatched) e [] tt), no_shape ts t h f w)
  reason_by ts t Par e h f w = (some_shape ts t h f w.1, no_permitted ts t h f w.0)
  reason_by ts t TooLong e h f w = (some_permitted ts t h f w, impossible_at ts t TooLong e)

  reason : (ts : List Token) (t : Token) (r : MatcherRefusal) → matching long (begin p) (ts ++ t ∷ []) ≡ over (refused r) [] → Reason p long (ts ++ t ∷ []) r
  reason ts t r e =
      let i = last ts t r e in
      reason_by ts t r e i.0 i.1 (subst (Told most long (λ n l. feed_within n l i.0 t)) i.2 (told most long i.0 t))

  pub laws : Laws p long
  laws = record {
    unique = λ ts us more rest args others c d e. unique p lawful most long same ts us more rest args others (from_division ts args c) (from_division us others d) e;
    answer = λ ts args e. to_division ts args (answer p lawful most long same ts args e);
    found = λ ts args d. found p lawful most long same ts args (from_division ts args d);
    live = λ ts h e. may ts (live p lawful most long same ts h e);
    possible_before = possible_before;
    impossible_at = impossible_at;
    reason = reason;
  }
