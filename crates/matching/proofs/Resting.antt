-- What may follow in each phase: the tokens that complete a division, with all its arguments. And the relations taken apart.
use Rattle.std.proofs.Common.{◌≡◌, ℕ, ◌+◌, ◌≤◌, Bool, true, false, ◌⊎◌, List, [], ◌∷◌, ◌++◌, length, sym, refl, ap, ◌∙◌, subst, inl, inr, arith}
use Rattle.std.proofs.lemmas.List.{append_assoc, append-nil}
use Rattle.tokens.specs.declared.token.Token.{Token}
use Rattle.matching.specs.Braces.{is_open, is_close, is_blank, all_blank, Balanced}
use Rattle.matching.specs.Dividing.{stripped, First, Taken, single, group, delimited, Divided, done, next, Permitted, AllPermitted}
use Rattle.matching.specs.Matching.{on, out, Progress, Phase, text_before, skipping, in_group, in_run, matched, refused, Step, following, fewest}

-- ---- the relations taken apart

pub record Single (ts a : List Token) (n : ℕ) : Type 0 where
  pub blanks : List Token
  pub token : Token
  pub tokens : ts ≡ blanks ++ token ∷ []
  pub argument : a ≡ token ∷ []
  pub count : n ≡ 1
  pub blank : all_blank blanks ≡ true
  pub not_blank : is_blank token ≡ false
  pub not_open : is_open token ≡ false
  pub not_close : is_close token ≡ false

pub record Group (ts a : List Token) (n : ℕ) : Type 0 where
  pub blanks : List Token
  pub left : Token
  pub right : Token
  pub tokens : ts ≡ blanks ++ left ∷ (a ++ right ∷ [])
  pub count : n ≡ length a + 2
  pub blank : all_blank blanks ≡ true
  pub opens : is_open left ≡ true
  pub balanced : Balanced a
  pub closes : is_close right ≡ true

pub record Delimited (d ts a : List Token) (n : ℕ) : Type 0 where
  pub run : List Token
  pub tokens : ts ≡ run ++ d
  pub argument : a ≡ stripped run
  pub count : n ≡ length run
  pub balanced : Balanced run
  pub first : First d run

abbrev pub TakenBy : List Token → List Token → List Token → ℕ → Type 0
TakenBy [] ts a n = Single ts a n ⊎ Group ts a n
TakenBy (x ∷ d) ts a n = Delimited (x ∷ d) ts a n

pub taken_by : {d ts a : List Token} {n : ℕ} → Taken d ts a n → TakenBy d ts a n
taken_by (single blanks t b nb np nc) =
    inl (record { blanks = blanks; token = t; tokens = refl; argument = refl; count = refl; blank = b; not_blank = nb; not_open = np; not_close = nc })
taken_by (group blanks o inner c b op bal cl) =
    inr (record { blanks = blanks; left = o; right = c; tokens = refl; count = refl; blank = b; opens = op; balanced = bal; closes = cl })
taken_by (delimited x d run bal f) = record { run = run; tokens = refl; argument = refl; count = refl; balanced = bal; first = f }

pub record Next (d : List Token) (ds : List (List Token)) (us : List Token) (args : List (List Token)) (m : ℕ) : Type 0 where
  pub front : List Token
  pub rest : List Token
  pub argument : List Token
  pub arguments : List (List Token)
  pub one : ℕ
  pub many : ℕ
  pub tokens : us ≡ front ++ rest
  pub all : args ≡ argument ∷ arguments
  pub count : m ≡ one + many
  pub taken : Taken d front argument one
  pub divided : Divided ds rest arguments many

abbrev pub DividedBy : List (List Token) → List Token → List (List Token) → ℕ → Type 0
DividedBy [] us args m = (us ≡ []) × (args ≡ []) × (m ≡ 0)
DividedBy (d ∷ ds) us args m = Next d ds us args m

pub divided_by : {ds : List (List Token)} {us : List Token} {args : List (List Token)} {m : ℕ} → Divided ds us args m → DividedBy ds us args m
divided_by done = (refl, refl, refl)
divided_by (next t v) =
    record { front = _; rest = _; argument = _; arguments = _; one = _; many = _; tokens = refl; all = refl; count = refl; taken = t; divided = v }

-- ---- what may follow

-- behind some finished arguments, tokens that divide by the delimiters that are left
pub record Rest (limit : ℕ) (long : Bool) (finished : List (List Token)) (k : ℕ) (ds : List (List Token)) (us : List Token) (args : List (List Token)) : Type 0 where
  pub arguments : List (List Token)
  pub count : ℕ
  pub all : args ≡ finished ++ arguments
  pub divided : Divided ds us arguments count
  pub fits : k + count ≤ limit
  pub permitted : AllPermitted long arguments

pub record Taking (limit : ℕ) (long : Bool) (finished : List (List Token)) (k : ℕ) (d : List Token) (ds : List (List Token)) (us : List Token) (args : List (List Token)) : Type 0 where
  pub front : List Token
  pub rest : List Token
  pub argument : List Token
  pub count : ℕ
  pub tokens : us ≡ front ++ rest
  pub taken : Taken d front argument count
  pub permitted : Permitted long argument
  pub rests : Rest limit long (finished ++ argument ∷ []) (k + count) ds rest args

pub record Grouping (limit : ℕ) (long : Bool) (p : Progress) (u us : List Token) (args : List (List Token)) : Type 0 where
  pub inner : List Token
  pub right : Token
  pub rest : List Token
  pub tokens : us ≡ inner ++ right ∷ rest
  pub balanced : Balanced (u ++ inner)
  pub closes : is_close right ≡ true
  pub permitted : Permitted long (u ++ inner)
  pub rests : Rest limit long (p.finished ++ (u ++ inner) ∷ []) (p.counted + (length (u ++ inner) + 2)) p.later rest args

pub record Running (limit : ℕ) (long : Bool) (p : Progress) (d u us : List Token) (args : List (List Token)) : Type 0 where
  pub run : List Token
  pub more : List Token
  pub rest : List Token
  pub tokens : us ≡ more ++ rest
  pub joined : u ++ more ≡ run ++ d
  pub balanced : Balanced run
  pub first : First d run
  pub permitted : Permitted long (stripped run)
  pub rests : Rest limit long (p.finished ++ stripped run ∷ []) (p.counted + length run) p.later rest args

abbrev pub Completes : ℕ → Bool → Phase → List Token → List (List Token) → Type 0
Completes limit long (text_before x xs ds) us args = (rest : List Token) × (us ≡ x ∷ (xs ++ rest)) × Rest limit long [] 0 ds rest args
Completes limit long (skipping p) us args = Rest limit long p.finished p.counted ([] ∷ p.later) us args
Completes limit long (in_group p u) us args = Grouping limit long p u us args
Completes limit long (in_run p d u) us args = Running limit long p d u us args

abbrev pub Comes : ℕ → Bool → Step → List Token → List (List Token) → Type 0
Comes limit long (on h) us args = Completes limit long h us args
Comes limit long (out (matched bs)) us args = (us ≡ []) × (args ≡ bs)
Comes limit long (out (refused r)) us args = ⊥

-- ---- one argument of the rest

pub taking : (limit : ℕ) (long : Bool) (f : List (List Token)) (k : ℕ) (d : List Token) (ds : List (List Token)) (us : List Token) (args : List (List Token)) → Rest limit long f k (d ∷ ds) us args → Taking limit long f k d ds us args
taking limit long f k d ds us args r =
    let n : Next d ds us r.arguments r.count = divided_by r.divided in
    let ok : AllPermitted long (n.argument ∷ n.arguments) = subst (AllPermitted long) n.all r.permitted in
    record {
      front = n.front;
      rest = n.rest;
      argument = n.argument;
      count = n.one;
      tokens = n.tokens;
      taken = n.taken;
      permitted = ok.0;
      rests = record {
        arguments = n.arguments;
        count = n.many;
        all = r.all ∙ ap (λ (b : List (List Token)). f ++ b) n.all ∙ sym (append_assoc f (n.argument ∷ []) n.arguments);
        divided = n.divided;
        fits = omega (arith, r.fits, n.count);
        permitted = ok.1;
      };
    }

pub taking_back : (limit : ℕ) (long : Bool) (f : List (List Token)) (k : ℕ) (d : List Token) (ds : List (List Token)) (us : List Token) (args : List (List Token)) → Taking limit long f k d ds us args → Rest limit long f k (d ∷ ds) us args
taking_back limit long f k d ds us args t =
    record {
      arguments = t.argument ∷ t.rests.arguments;
      count = t.count + t.rests.count;
      all = t.rests.all ∙ append_assoc f (t.argument ∷ []) t.rests.arguments;
      divided = subst (λ (ws : List Token). Divided (d ∷ ds) ws (t.argument ∷ t.rests.arguments) (t.count + t.rests.count)) (sym t.tokens) (next t.taken t.rests.divided);
      fits = omega (arith, t.rests.fits);
      permitted = (t.permitted, t.rests.permitted);
    }

-- ---- the next parameter

pub fewest_least : (ds : List (List Token)) (us : List Token) (args : List (List Token)) (m : ℕ) → Divided ds us args m → fewest ds ≤ m
fewest_least [] us args m v = omega arith
fewest_least ([] ∷ ds) us args m v =
    let n : Next [] ds us args m = divided_by v in
    omega (arith, n.count, fewest_least ds n.rest n.arguments n.many n.divided, at_least n.front n.argument n.one (taken_by n.taken))
  where
    at_least : (ts a : List Token) (k : ℕ) → Single ts a k ⊎ Group ts a k → 1 ≤ k
    at_least ts a k (inl s) = omega (arith, s.count)
    at_least ts a k (inr g) = omega (arith, g.count)
fewest_least ((x ∷ d) ∷ ds) us args m v =
    let n : Next (x ∷ d) ds us args m = divided_by v in
    omega (arith, n.count, fewest_least ds n.rest n.arguments n.many n.divided)

pub rest_fits : (limit : ℕ) (long : Bool) (f : List (List Token)) (k : ℕ) (ds : List (List Token)) (us : List Token) (args : List (List Token)) → Rest limit long f k ds us args → k + fewest ds ≤ limit
rest_fits limit long f k ds us args r = omega (arith, r.fits, fewest_least ds us r.arguments r.count r.divided)

permitted_stripped : (long : Bool) (run a : List Token) → a ≡ stripped run → Permitted long a → Permitted long (stripped run)
permitted_stripped long run a e h = subst (Permitted long) e h

pub comes_next : (limit : ℕ) (long : Bool) (f : List (List Token)) (k : ℕ) (ds : List (List Token)) (us : List Token) (args : List (List Token)) → Rest limit long f k ds us args → Comes limit long (following f k ds) us args
comes_next limit long f k [] us args r =
    let v : (us ≡ []) × (r.arguments ≡ []) × (r.count ≡ 0) = divided_by r.divided in
    (v.0, r.all ∙ ap (λ (b : List (List Token)). f ++ b) v.1 ∙ append-nil f)
comes_next limit long f k ([] ∷ ds) us args r = r
comes_next limit long f k ((x ∷ d) ∷ ds) us args r =
    let t : Taking limit long f k (x ∷ d) ds us args = taking limit long f k (x ∷ d) ds us args r in
    let g : Delimited (x ∷ d) t.front t.argument t.count = taken_by t.taken in
    record {
      run = g.run;
      more = t.front;
      rest = t.rest;
      tokens = t.tokens;
      joined = g.tokens;
      balanced = g.balanced;
      first = g.first;
      permitted = permitted_stripped long g.run t.argument g.argument t.permitted;
      rests = subst (λ (n : ℕ). Rest limit long (f ++ stripped g.run ∷ []) (k + n) ds t.rest args) g.count (subst (λ (a : List Token). Rest limit long (f ++ a ∷ []) (k + t.count) ds t.rest args) g.argument t.rests);
    }

pub next_comes : (limit : ℕ) (long : Bool) (f : List (List Token)) (k : ℕ) (ds : List (List Token)) (us : List Token) (args : List (List Token)) → k + fewest ds ≤ limit → Comes limit long (following f k ds) us args → Rest limit long f k ds us args
next_comes limit long f k [] us args h c =
    record {
      arguments = [];
      count = 0;
      all = c.1 ∙ sym (append-nil f);
      divided = subst (λ (ws : List Token). Divided [] ws [] 0) (sym c.0) done;
      fits = omega arith;
      permitted = tt;
    }
next_comes limit long f k ([] ∷ ds) us args h c = c
next_comes limit long f k ((x ∷ d) ∷ ds) us args h c =
    taking_back limit long f k (x ∷ d) ds us args (record {
      front = c.more;
      rest = c.rest;
      argument = stripped c.run;
      count = length c.run;
      tokens = c.tokens;
      taken = subst (λ (ts : List Token). Taken (x ∷ d) ts (stripped c.run) (length c.run)) (sym c.joined) (delimited x d c.run c.balanced c.first);
      permitted = c.permitted;
      rests = c.rests;
    })
