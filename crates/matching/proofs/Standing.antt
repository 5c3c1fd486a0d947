-- Many tokens, from what holds of each token read; and divisions under any limit.
use Rattle.std.proofs.Common.{◌≡◌, ℕ, ◌≤◌, Bool, ◌⊎◌, List, [], ◌∷◌, ◌++◌, length, sym, refl, ap, ◌∙◌, subst, inl, inr, arith}
use Rattle.std.proofs.lemmas.List.{append-nil, append_cancel_right, length-append}
use Rattle.tokens.specs.declared.token.Token.{Token}
use Rattle.matching.specs.declared.refusal.MatcherRefusal.{MatcherRefusal}
use Rattle.matching.specs.Dividing.{Parameters, Divided, AllPermitted, Shape, most}
use Rattle.matching.specs.Matching.{on, out, Phase, text_before, skipping, in_group, in_run, Outcome, matched, refused, Step, begin, fewest, feed_within, Run, still, over, matching_within}
use Rattle.matching.specs.Laws.{Lawful}
use Rattle.matching.proofs.Splits.{nil_front}
use Rattle.matching.proofs.Resting.{Single, Group, taken_by, Rest, Taking, taking, Completes, Comes}
use Rattle.matching.proofs.Valid.{Valid, ValidStep, awaiting_valid}
use Rattle.matching.proofs.Feeding.{awaiting_comes, comes_awaiting, before_fed, before_unfed, before_kept, skipping_fed, skipping_unfed, skipping_kept}
use Rattle.matching.proofs.Groups.{group_fed, group_unfed, group_kept}
use Rattle.matching.proofs.Runs.{run_fed, run_unfed, run_kept}
use Rattle.matching.proofs.Living.{lives}

module _ (limit : ℕ) (long : Bool) where
  -- ---- one token, in any phase

  pub fed : (h : Phase) → Valid limit long h → (t : Token) (us : List Token) (args : List (List Token)) → Completes limit long h (t ∷ us) args → Comes limit long (feed_within limit long h t) us args
  fed (text_before x xs ds) v t us args c = before_fed limit long x xs ds t us args c
  fed (skipping p) v t us args c = skipping_fed limit long p t us args c
  fed (in_group p u) v t us args c = group_fed limit long p u t us args c
  fed (in_run p d u) v t us args c = run_fed limit long p d u t us args v c

  pub unfed : (h : Phase) → Valid limit long h → (t : Token) (us : List Token) (args : List (List Token)) → Comes limit long (feed_within limit long h t) us args → Completes limit long h (t ∷ us) args
  unfed (text_before x xs ds) v t us args c = before_unfed limit long x xs ds t us args v c
  unfed (skipping p) v t us args c = skipping_unfed limit long p t us args c
  unfed (in_group p u) v t us args c = group_unfed limit long p u t us args v c
  unfed (in_run p d u) v t us args c = run_unfed limit long p d u t us args v c

  pub kept : (h : Phase) → Valid limit long h → (t : Token) → ValidStep limit long (feed_within limit long h t)
  kept (text_before x xs ds) v t = before_kept limit long x xs ds t [] [] v
  kept (skipping p) v t = skipping_kept limit long p t [] [] v
  kept (in_group p u) v t = group_kept limit long p u t [] [] v
  kept (in_run p d u) v t = run_kept limit long p d u t [] [] v

  -- a phase is left by a token only
  pub waits : (h : Phase) → Valid limit long h → (args : List (List Token)) → Completes limit long h [] args → ⊥
  waits (text_before x xs ds) v args c = omega (arith, ap length c.1)
  waits (skipping p) v args c = go (taken_by k.taken)
    where
      k : Taking limit long p.finished p.counted [] p.later [] args
      k = taking limit long p.finished p.counted [] p.later [] args c

      empty : length k.front ≡ 0
      empty = omega (arith, ap length k.tokens, length-append k.front k.rest)

      go : Single k.front k.argument k.count ⊎ Group k.front k.argument k.count → ⊥
      go (inl s) = omega (arith, empty, ap length s.tokens, length-append s.blanks (s.token ∷ []))
      go (inr g) = omega (arith, empty, ap length g.tokens, length-append g.blanks (g.left ∷ (k.argument ++ g.right ∷ [])))
  waits (in_group p u) v args c = omega (arith, ap length c.tokens, length-append c.inner (c.right ∷ c.rest))
  waits (in_run p d u) v args c =
      let none : c.more ≡ [] = nil_front c.more c.rest (sym c.tokens) in
      v.unfinished c.run [] (sym (append-nil u) ∙ ap (λ (k : List Token). u ++ k) (sym none) ∙ c.joined ∙ ap (λ (k : List Token). c.run ++ k) (sym (append-nil d))) c.balanced

  -- ---- many tokens

  abbrev pub Along : Run → List Token → List (List Token) → Type 0
  Along (still h) us args = Completes limit long h us args
  Along (over o left) us args = Comes limit long (out o) (left ++ us) args

  abbrev pub Sound : Run → Type 0
  Sound (still h) = Valid limit long h
  Sound (over o left) = Unit {0}

  pub along : (s : Step) → ValidStep limit long s → (ts us : List Token) (args : List (List Token)) → Comes limit long s (ts ++ us) args → Along (matching_within limit long s ts) us args
  along (out o) v ts us args c = c
  along (on h) v [] us args c = c
  along (on h) v (t ∷ ts) us args c = along (feed_within limit long h t) (kept h v t) ts us args (fed h v t (ts ++ us) args c)

  pub back : (s : Step) → ValidStep limit long s → (ts us : List Token) (args : List (List Token)) → Along (matching_within limit long s ts) us args → Comes limit long s (ts ++ us) args
  back (out o) v ts us args c = c
  back (on h) v [] us args c = c
  back (on h) v (t ∷ ts) us args c = unfed h v t (ts ++ us) args (back (feed_within limit long h t) (kept h v t) ts us args c)

  pub sound : (s : Step) → ValidStep limit long s → (ts : List Token) → Sound (matching_within limit long s ts)
  sound (out o) v ts = tt
  sound (on h) v [] = v
  sound (on h) v (t ∷ ts) = sound (feed_within limit long h t) (kept h v t) ts

  pub over_append : (s : Step) (ts us : List Token) (o : Outcome) (left : List Token) → matching_within limit long s ts ≡ over o left → matching_within limit long s (ts ++ us) ≡ over o (left ++ us)
  over_append (out x) ts us o left e =
      let same : x ≡ o = cc in
      let rest : ts ≡ left = cc in
      cc
  over_append (on h) [] us o left e = let z : ◌≡◌ {A = ℕ} 0 1 = cc in absurd (omega arith)
  over_append (on h) (t ∷ ts) us o left e = over_append (feed_within limit long h t) ts us o left e

  still_append : (s : Step) (ts us : List Token) (h : Phase) → matching_within limit long s ts ≡ still h → matching_within limit long s (ts ++ us) ≡ matching_within limit long (on h) us
  still_append (out x) ts us h e = let z : ◌≡◌ {A = ℕ} 0 1 = cc in absurd (omega arith)
  still_append (on g) [] us h e = let same : g ≡ h = cc in ap (λ (k : Phase). matching_within limit long (on k) us) same
  still_append (on g) (t ∷ ts) us h e = still_append (feed_within limit long g t) ts us h e

  -- the last step, where it is the last that ends the reading
  pub last_step : (s : Step) (ts : List Token) (t : Token) (o : Outcome) → matching_within limit long s (ts ++ t ∷ []) ≡ over o [] → (h : Phase) × (matching_within limit long s ts ≡ still h) × (feed_within limit long h t ≡ out o)
  last_step s ts t o e = go (matching_within limit long s ts) refl
    where
      ends : (k : Step) → matching_within limit long k [] ≡ over o [] → k ≡ out o
      ends (out x) f = let same : x ≡ o = cc in ap out same
      ends (on h) f = let z : ◌≡◌ {A = ℕ} 0 1 = cc in absurd (omega arith)

      go : (r : Run) → matching_within limit long s ts ≡ r → (h : Phase) × (matching_within limit long s ts ≡ still h) × (feed_within limit long h t ≡ out o)
      go (still h) f = (h, f, ends (feed_within limit long h t) (sym (still_append s ts (t ∷ []) h f) ∙ e))
      go (over x left) f =
          let g : over x (left ++ t ∷ []) ≡ over o [] = sym (over_append s ts (t ∷ []) x left f) ∙ e in
          let none : left ++ t ∷ [] ≡ [] = cc in
          absurd (omega (arith, ap length none, length-append left (t ∷ [])))

  pub after_last : (s : Step) (ts : List Token) (t : Token) (h : Phase) → matching_within limit long s ts ≡ still h → matching_within limit long s (ts ++ t ∷ []) ≡ matching_within limit long (feed_within limit long h t) []
  after_last s ts t h e = still_append s ts (t ∷ []) h e

pub few : (ds : List (List Token)) → fewest ds ≤ length ds
few [] = omega arith
few ([] ∷ ds) = omega (arith, few ds)
few ((x ∷ d) ∷ ds) = omega (arith, few ds)

-- a division under a limit
pub record Within (p : Parameters) (limit : ℕ) (long : Bool) (ts : List Token) (args : List (List Token)) : Type 0 where
  pub counted : ℕ
  pub shape : Shape p ts args counted
  pub permitted : AllPermitted long args
  pub fits : counted ≤ limit

module _ (p : Parameters) (lawful : Lawful p) (limit : ℕ) (long : Bool) (enough : most ≤ limit) where
  fits : fewest p.delimiters ≤ limit
  fits = omega (arith, lawful.1, few p.delimiters)

  pub valid : ValidStep limit long (begin p)
  valid = awaiting_valid limit long p.before p.delimiters lawful.0 fits

  pub within : (ts : List Token) (args : List (List Token)) → Comes limit long (begin p) ts args → Within p limit long ts args
  within ts args c =
      let i : (rest : List Token) × (ts ≡ p.before ++ rest) × Rest limit long [] 0 p.delimiters rest args = comes_awaiting limit long p.before p.delimiters ts args fits c in
      let r : Rest limit long [] 0 p.delimiters i.0 args = i.2 in
      record {
        counted = r.count;
        shape = record {
          rest = i.0;
          begins = i.1;
          divides = subst (λ (k : List (List Token)). Divided p.delimiters i.0 k r.count) (sym r.all) r.divided;
        };
        permitted = subst (AllPermitted long) (sym r.all) r.permitted;
        fits = omega (arith, r.fits);
      }

  pub comes : (ts : List Token) (args : List (List Token)) → Within p limit long ts args → Comes limit long (begin p) ts args
  comes ts args d =
      awaiting_comes limit long p.before p.delimiters ts d.shape.rest args d.shape.begins
      (record { arguments = args; count = d.counted; all = refl; divided = d.shape.divides; fits = omega (arith, d.fits); permitted = d.permitted })

  pub answer : (ts : List Token) (args : List (List Token)) → matching_within limit long (begin p) ts ≡ over (matched args) [] → Within p limit long ts args
  answer ts args e =
      within ts args (subst (λ (k : List Token). Comes limit long (begin p) k args) (append-nil ts)
      (back limit long (begin p) valid ts [] args (subst (λ (r : Run). Along limit long r [] args) (sym e) (refl, refl))))

  pub found : (ts : List Token) (args : List (List Token)) → Within p limit long ts args → matching_within limit long (begin p) ts ≡ over (matched args) []
  found ts args d =
      go (matching_within limit long (begin p) ts) (sound limit long (begin p) valid ts)
      (along limit long (begin p) valid ts [] args (subst (λ (k : List Token). Comes limit long (begin p) k args) (sym (append-nil ts)) (comes ts args d)))
    where
      go : (r : Run) → Sound limit long r → Along limit long r [] args → r ≡ over (matched args) []
      go (still h) v c = absurd (waits limit long h v args c)
      go (over (matched bs) left) v c =
          let same : args ≡ bs = c.1 in
          let none : left ≡ [] = nil_front left [] c.0 in
          cc
      go (over (refused r) left) v c = absurd c

  pub hopeless : (ts : List Token) (r : MatcherRefusal) → matching_within limit long (begin p) ts ≡ over (refused r) [] → (more : List Token) (args : List (List Token)) → Within p limit long (ts ++ more) args → ⊥
  hopeless ts r e more args d =
      subst (λ (k : Run). Along limit long k more args) e (along limit long (begin p) valid ts more args (comes (ts ++ more) args d))

  pub continues : (ts us : List Token) (args : List (List Token)) → Along limit long (matching_within limit long (begin p) ts) us args → Within p limit long (ts ++ us) args
  continues ts us args c = within (ts ++ us) args (back limit long (begin p) valid ts us args c)

  pub live : (ts : List Token) (h : Phase) → matching_within limit long (begin p) ts ≡ still h → (more : List Token) × (args : List (List Token)) × Within p limit long (ts ++ more) args
  live ts h e =
      let v : Valid limit long h = subst (Sound limit long) e (sound limit long (begin p) valid ts) in
      let i : (us : List Token) × (args : List (List Token)) × Completes limit long h us args = lives limit long h v in
      (i.0, i.1, continues ts i.0 i.1 (subst (λ (r : Run). Along limit long r i.0 i.1) (sym e) i.2))

  pub unique : (ts us more rest : List Token) (args others : List (List Token)) → Within p limit long ts args → Within p limit long us others → ts ++ more ≡ us ++ rest → (ts ≡ us) × (args ≡ others)
  unique ts us more rest args others c d e =
      let one : matching_within limit long (begin p) (ts ++ more) ≡ over (matched args) more = over_append limit long (begin p) ts more (matched args) [] (found ts args c) in
      let two : matching_within limit long (begin p) (us ++ rest) ≡ over (matched others) rest = over_append limit long (begin p) us rest (matched others) [] (found us others d) in
      let both : over (matched args) more ≡ over (matched others) rest = sym one ∙ ap (matching_within limit long (begin p)) e ∙ two in
      let left : more ≡ rest = ends _ _ _ _ both in
      let same : args ≡ others = arguments _ _ _ _ both in
      (append_cancel_right ts us more (e ∙ ap (λ (k : List Token). us ++ k) (sym left)), same)
    where
      ends : (a b : List (List Token)) (x y : List Token) → over (matched a) x ≡ over (matched b) y → x ≡ y
      ends a b x y h = cc

      arguments : (a b : List (List Token)) (x y : List Token) → over (matched a) x ≡ over (matched b) y → a ≡ b
      arguments a b x y h = cc
