-- The search: each found once, all that it finds is led to, and with enough to look at it finds all that is led to.
use Rattle.std.specs.Prelude.{ℕ, zero, suc, ◌+◌, ◌*◌, ◌≤◌, ◌<◌, ◌≡◌, refl, ◌≢◌, ◌⊎◌, List, [], ◌∷◌, ◌++◌, Bool, true, false, length, eqb}
use Rattle.std.proofs.Common.{sym, ◌∙◌, inl, inr, arith, length-append, eqb-true, eq-eqb, ne_eqb}
use Rattle.std.proofs.Math.Decide.{ℕ_discrete, dec_lt}
use Rattle.std.proofs.lemmas.Bool.{eqb-false}
use Rattle.machine.specs.Basics.{pick}
use Rattle.machine.specs.Objects.Base.{In}
use Rattle.machine.proofs.Objects.Base.{off_on, Nodup, sum_to, sum_to_ext, sum_to_at}
use Rattle.machine.specs.Live.Live.{memb, gather, known, search}

-- ---- membership
pub memb_in : (p : ℕ) (l : List ℕ) → memb p l ≡ true → In p l
unfolding memb
memb_in p [] e = off_on e
memb_in p (q ∷ l) e = by (eqb p q) refl e (λ k. memb_in p l k)
  where
    by : (b : Bool) → eqb p q ≡ b → pick b true (memb p l) ≡ true → (memb p l ≡ true → In p l) → In p (q ∷ l)
    by true h k ih = inl (eqb-true p q h)
    by false h k ih = inr (ih k)

pub in_memb : (p : ℕ) (l : List ℕ) → In p l → memb p l ≡ true
unfolding memb
in_memb p [] i = absurd i
in_memb p (q ∷ l) (inl e) = rw (eq-eqb p q e)
in_memb p (q ∷ l) (inr i) = by (eqb p q) (in_memb p l i)
  where
    by : (b : Bool) → memb p l ≡ true → pick b true (memb p l) ≡ true
    by true k = refl
    by false k = k

pub out_memb : (p : ℕ) (l : List ℕ) → (In p l → ⊥) → memb p l ≡ false
out_memb p l h = by (memb p l) refl
  where
    by : (b : Bool) → memb p l ≡ b → b ≡ false
    by true k = absurd (h (memb_in p l k))
    by false k = refl

pub in_left : (p : ℕ) (a b : List ℕ) → In p a → In p (a ++ b)
in_left p [] b i = absurd i
in_left p (q ∷ a) b (inl e) = inl e
in_left p (q ∷ a) b (inr i) = inr (in_left p a b i)

pub in_right : (p : ℕ) (a b : List ℕ) → In p b → In p (a ++ b)
in_right p [] b i = i
in_right p (q ∷ a) b i = inr (in_right p a b i)

pub in_either : (p : ℕ) (a b : List ℕ) → In p (a ++ b) → In p a ⊎ In p b
in_either p [] b i = inr i
in_either p (q ∷ a) b (inl e) = inl (inl e)
in_either p (q ∷ a) b (inr i) = on (in_either p a b i)
  where
    on : In p a ⊎ In p b → In p (q ∷ a) ⊎ In p b
    on (inl j) = inl (inr j)
    on (inr j) = inr j

-- ---- lists gathered
pub in_gather : (n : ℕ) (f : ℕ → List ℕ) (p i : ℕ) → i < n → In p (f i) → In p (gather n f)
unfolding gather
in_gather zero f p i l h = omega arith
in_gather (suc n) f p i l h = on (ℕ_discrete i n) (λ m. in_gather n f p i m h)
  where
    on : Dec (i ≡ n) → (i < n → In p (gather n f)) → In p (gather n f ++ f n)
    on (yes e) ih = in_right p (gather n f) (f n) (rw e at h)
    on (no d) ih = in_left p (gather n f) (f n) (ih (omega arith))

pub gather_in : (n : ℕ) (f : ℕ → List ℕ) (p : ℕ) → In p (gather n f) → (i : ℕ) × (i < n) × In p (f i)
unfolding gather
gather_in zero f p h = absurd h
gather_in (suc n) f p h = on (in_either p (gather n f) (f n) h) (λ k. gather_in n f p k)
  where
    on : In p (gather n f) ⊎ In p (f n) → (In p (gather n f) → (i : ℕ) × (i < n) × In p (f i)) → (i : ℕ) × (i < suc n) × In p (f i)
    on (inl k) ih = let r = ih k in (r.0, omega (arith, r.1), r.2)
    on (inr k) ih = (n, omega arith, k)

pub length_gather : (n : ℕ) (g : ℕ → ℕ) → length (gather n (λ j. g j ∷ [])) ≡ n
unfolding gather
length_gather zero g = refl
length_gather (suc n) g = omega (arith, length-append (gather n (λ j. g j ∷ [])) (g n ∷ []), length_gather n g)

-- ---- what is known
known_yes : (p : ℕ) (seen : List ℕ) → known p seen ≡ true → p ≢ 0 → In p seen
known_yes p seen e h = memb_in p seen (rw (ne_eqb p 0 h) at e)

known_no : (p : ℕ) (seen : List ℕ) → known p seen ≡ false → (p ≢ 0) × (In p seen → ⊥)
known_no p seen e = by (eqb p 0) refl e
  where
    by : (b : Bool) → eqb p 0 ≡ b → pick b true (memb p seen) ≡ false → (p ≢ 0) × (In p seen → ⊥)
    by true h k = off_on (sym k)
    by false h k = (eqb-false p 0 h, λ i. off_on (sym k ∙ in_memb p seen i))

-- ---- what the search keeps
-- none twice
pub search_once : (next : ℕ → List ℕ) (n : ℕ) (todo seen : List ℕ) → Nodup seen → Nodup (search next n todo seen)
unfolding search
search_once next zero todo seen o = o
search_once next (suc n) [] seen o = o
search_once next (suc n) (a ∷ todo) seen o = by (known a seen) refl (search_once next n todo seen o) (λ k. search_once next n (next a ++ todo) (a ∷ seen) k)
  where
    by : (b : Bool) → known a seen ≡ b → Nodup (search next n todo seen) → (Nodup (a ∷ seen) → Nodup (search next n (next a ++ todo) (a ∷ seen)))
        → Nodup (pick b (search next n todo seen) (search next n (next a ++ todo) (a ∷ seen)))
    by true e skip add = skip
    by false e skip add = add ((known_no a seen e).1, o)

-- what was seen before
pub search_keeps : (next : ℕ → List ℕ) (n : ℕ) (todo seen : List ℕ) (p : ℕ) → In p seen → In p (search next n todo seen)
unfolding search
search_keeps next zero todo seen p i = i
search_keeps next (suc n) [] seen p i = i
search_keeps next (suc n) (a ∷ todo) seen p i =
    by (known a seen) (search_keeps next n todo seen p i) (search_keeps next n (next a ++ todo) (a ∷ seen) p (inr i))
  where
    by : (b : Bool) → In p (search next n todo seen) → In p (search next n (next a ++ todo) (a ∷ seen))
        → In p (pick b (search next n todo seen) (search next n (next a ++ todo) (a ∷ seen)))
    by true skip add = skip
    by false skip add = add

-- what holds of all that was seen or is to be looked at, and of all that such a one leads to
pub search_only : (Q : ℕ → Type 0) (next : ℕ → List ℕ) → ((p q : ℕ) → Q p → In q (next p) → q ≢ 0 → Q q)
    → (n : ℕ) (todo seen : List ℕ) → ((q : ℕ) → In q todo → q ≢ 0 → Q q) → ((q : ℕ) → In q seen → Q q)
    → (p : ℕ) → In p (search next n todo seen) → Q p
unfolding search
search_only Q next led zero todo seen t s p i = s p i
search_only Q next led (suc n) [] seen t s p i = s p i
search_only Q next led (suc n) (a ∷ todo) seen t s p i =
    by (known a seen) refl i (λ k. search_only Q next led n todo seen (λ q j. t q (inr j)) s p k)
    (λ u v k. search_only Q next led n (next a ++ todo) (a ∷ seen) u v p k)
  where
    by : (b : Bool) → known a seen ≡ b → In p (pick b (search next n todo seen) (search next n (next a ++ todo) (a ∷ seen)))
        → (In p (search next n todo seen) → Q p)
        → (((q : ℕ) → In q (next a ++ todo) → q ≢ 0 → Q q) → ((q : ℕ) → In q (a ∷ seen) → Q q) → In p (search next n (next a ++ todo) (a ∷ seen)) → Q p)
        → Q p
    by true e k skip add = skip k
    by false e k skip add = add todos (λ q. elim [ inl z ↦ rw z here | inr j ↦ s q j ]) k
      where
        here : Q a
        here = t a (inl refl) (known_no a seen e).0

        todos : (q : ℕ) → In q (next a ++ todo) → q ≢ 0 → Q q
        todos q j h = elim (in_either q (next a) todo j) as (λ z. Q q) [ inl x ↦ led a q here x h | inr x ↦ t q (inr x) h ]

-- ---- what the search finds
-- the pointers below b that were not seen
unfoldable pub unseen : ℕ → List ℕ → ℕ
unseen b seen = sum_to b (λ x. pick (memb x seen) 0 1)

pub unseen_nil : (b : ℕ) → unseen b [] ≡ b
unfolding unseen memb sum_to
unseen_nil zero = refl
unseen_nil (suc b) = omega (arith, unseen_nil b)

pub unseen_none : (seen : List ℕ) → unseen 0 seen ≡ 0
unfolding unseen sum_to
unseen_none seen = refl

fewer : (b p : ℕ) (seen : List ℕ) → p < b → (In p seen → ⊥) → unseen b (p ∷ seen) + 1 ≡ unseen b seen
unfolding unseen memb
fewer b p seen l h =
    let k = sum_to_at b p (λ x. pick (memb x (p ∷ seen)) 0 1) (λ x. pick (memb x seen) 0 1) l (λ y d. rw (ne_eqb y p d) refl) in
    omega (arith, rw (eq-eqb p p refl, out_memb p seen h) at k)

as_many : (b p : ℕ) (seen : List ℕ) → b ≤ p → unseen b (p ∷ seen) ≡ unseen b seen
unfolding unseen memb
as_many b p seen l = sum_to_ext b _ _ (λ x m. rw (ne_eqb x p (λ e. omega arith)) refl)

-- what a pointer seen leads to was seen, or is to be looked at
abbrev pub Leads : (ℕ → List ℕ) → List ℕ → List ℕ → Type 0
Leads next seen todo = (p q : ℕ) → In p seen → In q (next p) → q ≢ 0 → In q seen ⊎ In q todo

-- all that was to be looked at was found, and all that what was found leads to
abbrev pub Found : (ℕ → List ℕ) → List ℕ → List ℕ → Type 0
Found next todo found =
    ((q : ℕ) → In q todo → q ≢ 0 → In q found) × ((p q : ℕ) → In p found → In q (next p) → q ≢ 0 → In q found)

-- with nothing to look at
settled : (next : ℕ → List ℕ) (seen : List ℕ) → Leads next seen [] → Found next [] seen
settled next seen leads = ((λ q i. absurd i), λ p q i j h. on q (leads p q i j h))
  where
    on : (q : ℕ) → In q seen ⊎ In q [] → In q seen
    on q (inl i) = i
    on q (inr i) = absurd i

-- Enough to look at: those there are, and 256 for each pointer not seen below the bound behind which nothing is led to. A
-- pointer that is new takes one from the latter and adds 255 at most.
pub search_finds : (next : ℕ → List ℕ) (b : ℕ) → ((p : ℕ) → length (next p) ≤ 255) → ((p : ℕ) → b ≤ p → next p ≡ [])
    → (n : ℕ) (todo seen : List ℕ) → length todo + 256 * unseen b seen ≤ n → Leads next seen todo
    → Found next todo (search next n todo seen)
unfolding search
search_finds next b few none zero [] seen l leads = settled next seen leads
search_finds next b few none zero (a ∷ todo) seen l leads = absurd (omega arith)
search_finds next b few none (suc n) [] seen l leads = settled next seen leads
search_finds next b few none (suc n) (a ∷ todo) seen l leads =
    by (known a seen) refl (λ m k. search_finds next b few none n todo seen m k)
    (λ m k. search_finds next b few none n (next a ++ todo) (a ∷ seen) m k)
  where
    by : (c : Bool) → known a seen ≡ c
        → (length todo + 256 * unseen b seen ≤ n → Leads next seen todo → Found next todo (search next n todo seen))
        → (length (next a ++ todo) + 256 * unseen b (a ∷ seen) ≤ n → Leads next (a ∷ seen) (next a ++ todo) → Found next (next a ++ todo) (search next n (next a ++ todo) (a ∷ seen)))
        → Found next (a ∷ todo) (pick c (search next n todo seen) (search next n (next a ++ todo) (a ∷ seen)))
    by true e ih jh = ((λ q i h. first q i h), f.1)
      where
        old : a ≢ 0 → In a seen
        old = known_yes a seen e

        on : (q : ℕ) → q ≢ 0 → In q seen ⊎ In q (a ∷ todo) → In q seen ⊎ In q todo
        on q h (inl i) = inl i
        on q h (inr (inl z)) = inl (rw z (old (λ y. h (z ∙ y))))
        on q h (inr (inr i)) = inr i

        f : Found next todo (search next n todo seen)
        f = ih (omega arith) (λ p q i j h. on q h (leads p q i j h))

        first : (q : ℕ) → In q (a ∷ todo) → q ≢ 0 → In q (search next n todo seen)
        first q (inl z) h = search_keeps next n todo seen q (rw z (old (λ y. h (z ∙ y))))
        first q (inr i) h = f.0 q i h
    by false e ih jh = ((λ q i h. first q i h), f.1)
      where
        new : (a ≢ 0) × (In a seen → ⊥)
        new = known_no a seen e

        enough : Dec (a < b) → length (next a ++ todo) + 256 * unseen b (a ∷ seen) ≤ n
        enough (yes m) = omega (arith, length-append (next a) todo, few a, fewer b a seen m new.1)
        enough (no m) =
            let z : length (next a) ≡ 0 = rw (none a (omega arith)) refl in
            omega (arith, length-append (next a) todo, z, as_many b a seen (omega (arith, m)))

        on : (q : ℕ) → In q seen ⊎ In q (a ∷ todo) → In q (a ∷ seen) ⊎ In q (next a ++ todo)
        on q (inl i) = inl (inr i)
        on q (inr (inl z)) = inl (inl z)
        on q (inr (inr i)) = inr (in_right q (next a) todo i)

        leads' : Leads next (a ∷ seen) (next a ++ todo)
        leads' p q (inl z) j h = inr (in_left q (next a) todo (rw z at j))
        leads' p q (inr i) j h = on q (leads p q i j h)

        f : Found next (next a ++ todo) (search next n (next a ++ todo) (a ∷ seen))
        f = jh (enough (dec_lt a b)) leads'

        first : (q : ℕ) → In q (a ∷ todo) → q ≢ 0 → In q (search next n (next a ++ todo) (a ∷ seen))
        first q (inl z) h = search_keeps next n (next a ++ todo) (a ∷ seen) q (inl z)
        first q (inr i) h = f.0 q (in_right q (next a) todo i) h
