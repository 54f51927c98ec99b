-- A scan of a lent slice of structs: `if off(a) { return a; } let mut acc = a; let mut i = 0; while i < t.len() { let x = t[i]; i += 1; if wants(acc, x) { acc = add(acc, x); } } acc`,
-- for any struct in the slice, any struct that is carried, any tests and any step. They and their laws are the parameters.
-- `meets` says that a function of this shape ensures `result ≡ cond (off a) a (foldl step a t.now)`, where `step a x` is `cond (wants a x) (add a x) a`. A proof of one by hand is a citation of `meets` that names the parameters.
-- `walk` walks the MIR. Assumes nothing.
use mathlib.Core.Path.{◌≡◌, refl, sym, ◌∙◌, ap, subst}
use Prim.Native.Nat.{ℕ, ◌+◌, ◌-◌, ◌<◌, ◌≤◌, ◌^◌, ◌*◌, zero-le}
use native.Mathlib.Nat.{eq-or-lt_of_le}
use native.Mathlib.Numerals.{add-one, add-one-le, add-one-dec}
use native.Mathlib.Omega.{arith}
use mathlib.Core.Bool.{Bool, true, false, not, cond}
use mathlib.Core.Logic.{◌⊎◌, inl, inr}
use mathlib.Core.List.{List, [], ◌∷◌, foldl, head_d}
use mathlib.Core.WellFounded.InvImage
use mathlib.Core.WellFounded.{WellFounded}
use lib.WfN.{lt-wf_rel}
use lib.ListN.{length, get_or, drop as dropᴸ, drop_of_length-le}
use lib.Seq.{drop-cons}
use lib.Dec.{T as Holds, lit<, ltb}
use borrow.Author.Tests.{lt-ltb, le-ltb}
use seplogic.Ra.Ura.{Ura}
use base.Fraction.{full_share}
use mir.Syntax.{Callee, Ty, Fn, Body, named, imm, w64, ty_int, ty_bool, ty_ptr, ty_ref, deref, field, place, unsigned, copy, int, local, value_local, skip as skipᴹ, seq, assign, block, loop, cond as condᴹ, exit, call, return, rv_opd, op2, add, mul, lt, offset}
use mir.Val.{Val, WT, has_ty, vint, vbool, vptr}
use base.Logic.{SProp, ent, sep, emp, via, fst∗, snd∗, ex_e, id⊢}
use base.Fml.{Lft, Share, Fml, ftrue, fat, froom, fdies, flft, fhide}
use prog.Model.{Model}
use prog.Routine.{Routine, Env as Meanings}
use prog.Wp.{Out, Env, after_seq, after_block, after_turn, Calls, Loops, Wp, at_return, WpFn, Closed, Tables}
use types.Logic.{Logic, sem}
use contract.Monad.{Fun, fact}
use contract.Running.{Running, tables, tables_of}
use types.Kit.{Item, ‵, raw, ◌⊛◌, ⋆, some, later, runs, any_q, at_ret, Sq, ◌$◌, ◌∵◌, !, qed, by, move, keep, drop, use1, split, join, pick, rewrite, fsplit, fjoin, suffices, frame, await, done}
use types.Part.{whole, sub, look_in}
use types.Run.{look, look_raw, store, init, forget, stop, hop, fld, from, load, lit, of_opd, bin, and_then, no_more, assigns, land, land_last, skips, branches, first, blocks, stays, leaves_loop, returns, enter, alloc1, alloc0, params1, pass1, pass0, free1, free0, exec, Below, again, loops, returns_within}
use sound.WpLaws.{fm_of, WpFn-mono}
use denote.RattleType.{RattleType, owns}
use denote.Laws.{Is, shows}
use denote.Memory.{pointee, lone, mem as memᴹ}
use denote.Plain.{bool_Lawful}
use denote.Builtin.{bool}
use denote.Ref.{Bor}
use denote.Index.{place as placed, place_is, elem_out, elem_back, looks_slice, shuts_slice}
use denote.Slice.{slice_ty, slice_val, ShrSlice, Room, shr_slice_at, elements_shared, shr_slice_vals, shr_slice_Tells}
use denote.Signature.{Signature, plain, shr_slice_of}
use denote.Struct.Declared.{Declared, row, fields}
use denote.Struct.Struct.{Plains}
use borrow.Author.Rules.{scaled_Fits}
use denote.Steps.{nothing, owned, peeks, heard}
use denote.Struct.Laws as LL
use denote.Triple.Statement.{Contract, Triple}
use denote.Triple.Call.{calls_at, calls_at_last}
use denote.Triple.Clauses.{Clauses, Ended, ensured, lasts, closing}
use denote.Triple.Entry.{Vals}
use denote.Triple.Spec.{triple_of}
use denote.Triple.Table.{entered, cited}
use denote.Triple.Walked.{says, Stays, stay_none, stay_none_slice, walk_of, Goes-none, Goes-none_slice, ends_at, walked, walk_Meets}
use denote.Exit.{Exit, Last, left, yes}

next_fits : (i n : ℕ) → i < n → n < 2 ^ 64 → i + 1 < 2 ^ 64
next_fits i n l g = omega arith

so_true : (b : Bool) → Holds b → b ≡ true
so_true true h = refl
so_true false h = absurd h

so_false : (b : Bool) → Holds (not b) → b ≡ false
so_false true h = absurd h
so_false false h = refl

head_is : (u v : Val) → ◌≡◌ {A = List Val} (u ∷ []) (v ∷ []) → u ≡ v
unfolding head_d
head_is u v e = ap (λ (l : List Val). head_d l u) e

module _ (TR : Declared) (LR : LL.Laws TR) (CR : LL.Copyables TR.parts) (PR : Plains (fields TR)) (d : TR.D) (TS : Declared) (LS : LL.Laws TS) (CS : LL.Copyables TS.parts) (PS : Plains (fields TS)) (off : TS.D → Bool) (wants : TS.D → TR.D → Bool) (add₁ : TS.D → TR.D → TS.D) (#o #w #g : Callee) (small : Holds (ltb (memᴹ (row TR)).size (2 ^ 64))) where
  abbrev step : TS.D → TR.D → TS.D
  step a x = cond (wants a x) (add₁ a x) a

  abbrev R : RattleType
  R = row TR

  abbrev S : RattleType
  S = row TS

  abbrev size : ℕ
  size = (memᴹ R).size

  abbrev τR : Ty
  τR = lone R.mir

  abbrev τS : Ty
  τS = lone S.mir

  abbrev slice : Ty
  slice = slice_ty (ty_ref (named 0) imm (pointee R.written))

  abbrev word : Ty
  word = ty_int w64

  -- the MIR
  abbrev adds : Body
  adds = call #g (copy (place 3 []) ∷ copy (place 5 []) ∷ []) (place 3 [])

  abbrev turn : Body
  turn = seq (assign (place 7 []) (rv_opd (copy (place 1 (field 1 ∷ [])))))
      (seq (assign (place 8 []) (op2 (lt unsigned) (copy (place 4 [])) (copy (place 7 []))))
      (seq (condᴹ (copy (place 8 [])) skipᴹ (exit 1))
      (seq (assign (place 7 []) (op2 (mul unsigned) (copy (place 4 [])) (int w64 size)))
      (seq (assign (place 9 []) (op2 offset (copy (place 1 (field 0 ∷ []))) (copy (place 7 []))))
      (seq (assign (place 10 []) (rv_opd (copy (place 9 (deref τR ∷ [])))))
      (seq (assign (place 5 []) (rv_opd (copy (place 10 []))))
      (seq (assign (place 4 []) (op2 (add unsigned) (copy (place 4 [])) (int w64 1)))
      (seq (call #w (copy (place 3 []) ∷ copy (place 5 []) ∷ []) (place 11 []))
      (condᴹ (copy (place 11 [])) adds skipᴹ)))))))))

  abbrev after : Body
  after = seq (assign (place 0 []) (rv_opd (copy (place 3 [])))) return

  abbrev rest : Body
  rest = seq (block (loop turn)) after

  abbrev looks : Body
  looks = seq (assign (place 3 []) (rv_opd (copy (place 2 [])))) (seq (assign (place 4 []) (rv_opd (int w64 0))) rest)

  abbrev outright : Body
  outright = seq (assign (place 0 []) (rv_opd (copy (place 2 [])))) return

  abbrev function : Fn
  function = record {
    ty_params = [];
    givens = 0;
    lifetimes = 1;
    outlives = [];
    params = 2;
    locals = local τS value_local ∷ local slice value_local ∷ local τS value_local ∷ local τS value_local ∷ local word value_local ∷ local τR value_local ∷ local ty_bool value_local ∷ local word value_local ∷ local ty_bool value_local ∷ local ty_ptr value_local ∷ local τR value_local ∷ local ty_bool value_local ∷ [];
    body = seq (call #o (copy (place 2 []) ∷ []) (place 6 [])) (seq (condᴹ (copy (place 6 [])) outright skipᴹ) looks);
  }

  -- the contracts of the test and of the step: they give `wants` and `add₁` of what they are passed
  abbrev want_sig : Signature
  want_sig = record { lifetimes = 0; outlives = []; params = plain (λ κs. S) ∷ plain (λ κs. R) ∷ []; result = plain (λ κs. bool) }

  abbrev want_ended : Ended
  want_ended = record { signature = want_sig; kept = (yes, (yes, tt)) }

  abbrev want_clauses : {M : Type 1} (𝓤 : Ura M) → Clauses 𝓤 want_ended
  want_clauses 𝓤 κs a = record { ghost = Unit {0}; requires = λ _. emp 𝓤; ensures = λ _ r e. fact 𝓤 (r ≡ wants a.0 a.1.0) }

  abbrev Want : {M : Type 1} {𝓤 : Ura M} (𝓛 : Logic 𝓤) → Contract 𝓤
  Want {𝓤 = 𝓤} 𝓛 = triple_of 𝓛 want_sig (closing 𝓛 want_ended (want_clauses 𝓤))

  abbrev step_sig : Signature
  step_sig = record { lifetimes = 0; outlives = []; params = plain (λ κs. S) ∷ plain (λ κs. R) ∷ []; result = plain (λ κs. S) }

  abbrev step_ended : Ended
  step_ended = record { signature = step_sig; kept = (yes, (yes, tt)) }

  abbrev step_clauses : {M : Type 1} (𝓤 : Ura M) → Clauses 𝓤 step_ended
  step_clauses 𝓤 κs a = record { ghost = Unit {0}; requires = λ _. emp 𝓤; ensures = λ _ r e. fact 𝓤 (r ≡ add₁ a.0 a.1.0) }

  abbrev Step : {M : Type 1} {𝓤 : Ura M} (𝓛 : Logic 𝓤) → Contract 𝓤
  Step {𝓤 = 𝓤} 𝓛 = triple_of 𝓛 step_sig (closing 𝓛 step_ended (step_clauses 𝓤))

  -- the contract of the test that is made first, of what is carried
  abbrev off_sig : Signature
  off_sig = record { lifetimes = 0; outlives = []; params = plain (λ κs. S) ∷ []; result = plain (λ κs. bool) }

  abbrev off_ended : Ended
  off_ended = record { signature = off_sig; kept = (yes, tt) }

  abbrev off_clauses : {M : Type 1} (𝓤 : Ura M) → Clauses 𝓤 off_ended
  off_clauses 𝓤 κs a = record { ghost = Unit {0}; requires = λ _. emp 𝓤; ensures = λ _ r e. fact 𝓤 (r ≡ off a.0) }

  abbrev Off : {M : Type 1} {𝓤 : Ura M} (𝓛 : Logic 𝓤) → Contract 𝓤
  Off {𝓤 = 𝓤} 𝓛 = triple_of 𝓛 off_sig (closing 𝓛 off_ended (off_clauses 𝓤))

  -- what the slice reference owns, in parts
  abbrev Shared : Lft → ℕ → ℕ → List TR.D → Fml
  Shared κ b o ys = fhide (elements_shared R ys b o κ)

  abbrev Sized : ℕ → ℕ → List TR.D → Fml
  Sized b o ys = shr_slice_at R (record { ref_ptr = (b, o); now = ys }) (slice_val (b, o) (length ys) ∷ [])

  -- what is left of it at exit, with the token
  abbrev Lent : {M : Type 1} (𝓤 : Ura M) → Lft → Share → ℕ → ℕ → List TR.D → List (Item 𝓤)
  Lent 𝓤 κ q b o ys = ‵ (Shared κ b o ys) ∷ ‵ (flft κ q) ∷ ‵ (Sized b o ys) ∷ []

  -- one element more is folded
  fold_more : (ys : List TR.D) (i : ℕ) (acc r : TS.D) → i < length ys → r ≡ step acc (get_or ys i d) → foldl step r (dropᴸ (i + 1) ys) ≡ foldl step acc (dropᴸ i ys)
  fold_more ys i acc r l e =
      ap (λ (z : TS.D). foldl step z (dropᴸ (i + 1) ys)) e
      ∙ sym (ap (foldl step acc) (drop-cons ys i d l ∙ ap (λ (k : ℕ). get_or ys i d ∷ dropᴸ k ys) (sym (add-one i))))

  module _ {M : Type 1} {𝓤 : Ura M} (𝓛 : Logic 𝓤) (κ : Lft) (q : Share) (b o : ℕ) (ys : List TR.D) (gn : Room R (length ys)) (a : TS.D) (va : Val) (ga : Is S a (va ∷ [])) (Post : Val → SProp 𝓤)
      (exits : (r : TS.D) (v : Val) → Is S r (v ∷ []) → r ≡ foldl step a ys → ent 𝓤 (⋆ 𝓛 (Lent 𝓤 κ q b o ys)) (Post v)) where
    open 𝓛 use {H}

    abbrev n : ℕ
    n = length ys

    -- where the loop stands: i elements are behind, and the value so far is acc, of the machine value v
    record Turn : Type 0 where
      i : ℕ
      acc : TS.D
      v : Val
      below : i ≤ n
      is : Is S acc (v ∷ [])
      inv : foldl step acc (dropᴸ i ys) ≡ foldl step a ys

    abbrev Nearer : Turn → Turn → Type 0
    Nearer s t = n - s.i < n - t.i

    Nearer-wf : WellFounded Nearer
    Nearer-wf = InvImage.wf (λ (t : Turn). n - t.i) lt-wf_rel.wf

    typed : (r : TS.D) (v : Val) → Is S r (v ∷ []) → Holds (has_ty τS v) × WT v
    typed r v is = ((LL.lawful TS LS 𝓛).typed r (v ∷ []) is).0

    -- the callees are passed the value so far and an element
    module _ (t : Turn) (e : TR.D) (ve : Val) (ge : Is R e (ve ∷ [])) where
      abbrev wanted : Vals want_sig tt
      wanted = (t.v ∷ [], (ve ∷ [], tt))

      abbrev to_w : (Want 𝓛).Ghost
      to_w = ((tt, tt, tt, (t.acc, (e, tt)), wanted), tt)

      asked_w : ent 𝓤 (emp 𝓤) ((Want 𝓛).pre to_w)
      asked_w = qed 𝓛 [] ∵ nothing ! $ owned ! R (Is R) (LL.makes TR PR 𝓛) e _ ge $ fjoin ! $ owned ! S (Is S) (LL.makes TS PS 𝓛) t.acc _ t.is $ fjoin ! $ nothing ! $ join ! $ frame ! $ done !

      said_w : (r : Bool) → ent 𝓤 (ensured 𝓛 want_ended (want_clauses 𝓤) tt (t.acc, (e, tt)) tt r) (fact 𝓤 (r ≡ wants t.acc e))
      said_w r = ex_e 𝓤 _ (λ ws. snd∗ 𝓤 (sem 𝓛 (lasts want_ended tt (t.acc, (e, tt)) ws)) (fact 𝓤 (r ≡ wants t.acc e)))

      abbrev passed : Vals step_sig tt
      passed = (t.v ∷ [], (ve ∷ [], tt))

      abbrev to : (Step 𝓛).Ghost
      to = ((tt, tt, tt, (t.acc, (e, tt)), passed), tt)

      asked : ent 𝓤 (emp 𝓤) ((Step 𝓛).pre to)
      asked = qed 𝓛 [] ∵ nothing ! $ owned ! R (Is R) (LL.makes TR PR 𝓛) e _ ge $ fjoin ! $ owned ! S (Is S) (LL.makes TS PS 𝓛) t.acc _ t.is $ fjoin ! $ nothing ! $ join ! $ frame ! $ done !

      said : (r : TS.D) → ent 𝓤 (ensured 𝓛 step_ended (step_clauses 𝓤) tt (t.acc, (e, tt)) tt r) (fact 𝓤 (r ≡ add₁ t.acc e))
      said r = ex_e 𝓤 _ (λ ws. snd∗ 𝓤 (sem 𝓛 (lasts step_ended tt (t.acc, (e, tt)) ws)) (fact 𝓤 (r ≡ add₁ t.acc e)))

    module _ (𝓣 : Tables 𝓤 H) (knownW : Triple 𝓤 (𝓣.C #w) (Want 𝓛)) (known : Triple 𝓤 (𝓣.C #g) (Step 𝓛)) (l₀ l₁ l₂ l₃ l₄ l₅ l₆ l₇ l₈ l₉ l₁₀ l₁₁ : ℕ) where
      abbrev C : Calls 𝓤 H
      C = 𝓣.C

      abbrev Λ : Loops 𝓤 H
      Λ = 𝓣.Λ

      abbrev En : Env 𝓤 H
      En = (τS, l₀) ∷ (slice, l₁) ∷ (τS, l₂) ∷ (τS, l₃) ∷ (word, l₄) ∷ (τR, l₅) ∷ (ty_bool, l₆) ∷ (word, l₇) ∷ (ty_bool, l₈) ∷ (ty_ptr, l₉) ∷ (τR, l₁₀) ∷ (ty_bool, l₁₁) ∷ []

      abbrev At : Turn → List (Item 𝓤)
      At t = ‵ (Shared κ b o ys) ∷ ‵ (flft κ q) ∷ ‵ (froom ty_bool l₁₁ 0) ∷ ‵ (fdies ty_bool l₁₁) ∷ ‵ (froom τR l₁₀ 0) ∷ ‵ (fdies τR l₁₀) ∷ ‵ (froom ty_ptr l₉ 0) ∷ ‵ (fdies ty_ptr l₉) ∷ ‵ (froom ty_bool l₈ 0) ∷ ‵ (fdies ty_bool l₈)
          ∷ ‵ (froom word l₇ 0) ∷ ‵ (fdies word l₇) ∷ ‵ (froom ty_bool l₆ 0) ∷ ‵ (fdies ty_bool l₆) ∷ ‵ (froom τR l₅ 0) ∷ ‵ (fdies τR l₅)
          ∷ ‵ (fat full_share word l₄ 0 (vint w64 t.i)) ∷ ‵ (fdies word l₄) ∷ ‵ (fat full_share τS l₃ 0 t.v) ∷ ‵ (fdies τS l₃) ∷ ‵ (fat full_share τS l₂ 0 va) ∷ ‵ (fdies τS l₂)
          ∷ ‵ (fat full_share slice l₁ 0 (slice_val (b, o) n)) ∷ ‵ (fdies slice l₁) ∷ ‵ (froom τS l₀ 0) ∷ ‵ (fdies τS l₀) ∷ ‵ (Sized b o ys) ∷ []

      abbrev Turned : Turn → Out → SProp 𝓤
      Turned t = after_turn 𝓤 H (Below 𝓛 Nearer At t) (after_block 𝓤 H (after_seq 𝓤 H (Wp 𝓤 H C Λ En after (at_return 𝓤 H En Post)) (at_return 𝓤 H En Post)))

      -- where the test has been made of the element: it is in _5, its number is counted
      abbrev Tested : Turn → Val → Bool → List (Item 𝓤)
      Tested t ve r = ‵ (flft κ q) ∷ ‵ (Shared κ b o ys) ∷ ‵ (fat full_share ty_bool l₁₁ 0 (vbool r)) ∷ ‵ (fdies ty_bool l₁₁) ∷ ‵ (fat full_share τR l₁₀ 0 ve) ∷ ‵ (fdies τR l₁₀) ∷ ‵ (fat full_share ty_ptr l₉ 0 (vptr b (placed size o t.i))) ∷ ‵ (fdies ty_ptr l₉) ∷ ‵ (fat full_share ty_bool l₈ 0 (vbool true)) ∷ ‵ (fdies ty_bool l₈)
          ∷ ‵ (fat full_share word l₇ 0 (vint w64 (t.i * size))) ∷ ‵ (fdies word l₇) ∷ ‵ (froom ty_bool l₆ 0) ∷ ‵ (fdies ty_bool l₆) ∷ ‵ (fat full_share τR l₅ 0 ve) ∷ ‵ (fdies τR l₅)
          ∷ ‵ (fat full_share word l₄ 0 (vint w64 (t.i + 1))) ∷ ‵ (fdies word l₄) ∷ ‵ (fat full_share τS l₃ 0 t.v) ∷ ‵ (fdies τS l₃) ∷ ‵ (fat full_share τS l₂ 0 va) ∷ ‵ (fdies τS l₂)
          ∷ ‵ (fat full_share slice l₁ 0 (slice_val (b, o) n)) ∷ ‵ (fdies slice l₁) ∷ ‵ (froom τS l₀ 0) ∷ ‵ (fdies τS l₀) ∷ ‵ (Sized b o ys) ∷ []

      abbrev next : (t : Turn) → t.i < n → (r : TS.D) (u : Val) → Is S r (u ∷ []) → r ≡ step t.acc (get_or ys t.i d) → Turn
      next t less r u is e = record { i = t.i + 1; acc = r; v = u; below = add-one-le less; is = is; inv = fold_more ys t.i t.acc r less e ∙ t.inv }

      -- the element is wanted, or it is not
      tested : (t : Turn) (less : t.i < n) (ve : Val) → Is R (get_or ys t.i d) (ve ∷ []) → (r : Bool) → r ≡ wants t.acc (get_or ys t.i d) → Sq 𝓛 (Tested t ve r) (runs C Λ En (condᴹ (copy (place 11 [])) adds skipᴹ) (any_q (Turned t)))
      unfolding after_turn
      tested t less ve ge r w = branches ! (load ! (from ! (stop !)) (look ! 2 refl)) yes_arm no_arm
        where
          elem : TR.D
          elem = get_or ys t.i d

          yes_arm : Holds r → Sq 𝓛 (Tested t ve r) (runs C Λ En adds (any_q (Turned t)))
          yes_arm y =
              nothing ! $ use1 𝓛 (raw ((Step 𝓛).pre (to t elem ve ge))) (asked t elem ve ge) $
              calls_at_last ! (fm_of 𝓤 H 𝓛.laws 𝓣) (Step 𝓛) known (to t elem ve ge) (and_then ! (load ! (from ! (stop !)) (look ! 19 refl)) (and_then ! (load ! (from ! (stop !)) (look ! 15 refl)) (no_more !))) (λ u.
              use1 𝓛 (later (some (λ (r : TS.D). (‵ ftrue ⊛ ‵ (S.own_val r (u ∷ []))) ⊛ raw (ensured 𝓛 step_ended (step_clauses 𝓤) tt (t.acc, (elem, tt)) tt r)))) (id⊢ 𝓤 _) $ await ! tt $ pick ! (λ z.
              split ! $ move ! (1 ∷ []) $ use1 𝓛 (raw (fact 𝓤 (z ≡ add₁ t.acc elem))) (said t elem ve ge z) $ heard ! (z ≡ add₁ t.acc elem) (λ e. split ! $ drop ! $
              peeks ! S (Is S) (shows 𝓛 S) z (u ∷ []) (λ is. drop ! $
              land_last ! (from ! (stop !)) (store ! 18 refl (typed z u is)) $
              forget ! 2 refl $ forget ! 4 refl $ forget ! 6 refl $ forget ! 8 refl $ forget ! 10 refl $ forget ! 14 refl $ move ! (1 ∷ 0 ∷ []) $
              again ! Nearer At t (next t less z u is (e ∙ sym (taken (so_true r y)))) (add-one-dec n t.i less)))))
            where
              taken : r ≡ true → step t.acc elem ≡ add₁ t.acc elem
              taken h = ap (λ (k : Bool). cond k (add₁ t.acc elem) t.acc) (sym w ∙ h)

          no_arm : Holds (not r) → Sq 𝓛 (Tested t ve r) (runs C Λ En skipᴹ (any_q (Turned t)))
          no_arm y =
              skips ! $ forget ! 2 refl $ forget ! 4 refl $ forget ! 6 refl $ forget ! 8 refl $ forget ! 10 refl $ forget ! 14 refl $ move ! (1 ∷ 0 ∷ []) $
              again ! Nearer At t (next t less t.acc t.v t.is (sym (left (so_false r y)))) (add-one-dec n t.i less)
            where
              left : r ≡ false → step t.acc elem ≡ t.acc
              left h = ap (λ (k : Bool). cond k (add₁ t.acc elem) t.acc) (sym w ∙ h)

      -- a turn that goes on
      more : (t : Turn) → t.i < n → Sq 𝓛 (At t) (runs C Λ En turn (any_q (Turned t)))
      unfolding after_turn
      more t less =
          assigns ! (of_opd ! (load ! (from ! (fld ! refl (stop !))) (look_in ! 22 (sub ! 1 refl (whole !))))) (from ! (stop !)) (init ! 10 refl (tt, record { fits = gn.0 })) $
          assigns ! (bin ! (load ! (from ! (stop !)) (look ! 16 refl)) (load ! (from ! (stop !)) (look ! 10 refl)) tt) (from ! (stop !)) (init ! 8 refl (tt, tt)) $
          rewrite ! 8 (λ (y : Bool). ‵ (fat full_share ty_bool l₈ 0 (vbool y))) (lt-ltb t.i n less) refl $
          stays ! (load ! (from ! (stop !)) (look ! 8 refl)) $
          assigns ! (bin ! (load ! (from ! (stop !)) (look ! 16 refl)) (lit ! small) (scaled_Fits t.i n size less gn.1)) (from ! (stop !)) (store ! 10 refl (tt, scaled_Fits t.i n size less gn.1)) $
          assigns ! (bin ! (load ! (from ! (fld ! refl (stop !))) (look_in ! 22 (sub ! 0 refl (whole !)))) (load ! (from ! (stop !)) (look ! 10 refl)) tt) (from ! (stop !)) (init ! 6 refl (tt, tt)) $
          rewrite ! 6 (λ (p : ℕ). ‵ (fat full_share ty_ptr l₉ 0 (vptr b p))) (sym (place_is size o t.i)) refl $
          looks_slice ! tt R (LL.copied TR CR 𝓛) ys b o (λ q'.
          elem_out ! R (Is R) (shows 𝓛 R) (LL.vals TR LR) (LL.tells TR LR) q' ys t.i d b o less (λ ge.
          -- [t[i]; what it owns; the others; what shuts; the borrow; _10; …]
          assigns ! (of_opd ! (load ! (from ! (hop ! (look ! 9 refl) (stop !))) (look_raw ! 0 refl))) (from ! (stop !)) (init ! 7 refl ((LL.lawful TR LR 𝓛).typed elem _ ge).0) $
          elem_back ! R q' ys t.i d (ve ∷ []) b o less $ shuts_slice ! tt R q' ys b o $
          -- [the token; the borrow; _10; …]
          assigns ! (of_opd ! (load ! (from ! (stop !)) (look ! 4 refl))) (from ! (stop !)) (init ! 14 refl ((LL.lawful TR LR 𝓛).typed elem _ ge).0) $
          assigns ! (bin ! (load ! (from ! (stop !)) (look ! 16 refl)) (lit ! tt) (record { fits = next_fits t.i n less gn.0 })) (from ! (stop !)) (store ! 16 refl (tt, record { fits = next_fits t.i n less gn.0 })) $
          nothing ! $ use1 𝓛 (raw ((Want 𝓛).pre (to_w t elem ve ge))) (asked_w t elem ve ge) $
          calls_at ! (fm_of 𝓤 H 𝓛.laws 𝓣) (Want 𝓛) knownW (to_w t elem ve ge) (and_then ! (load ! (from ! (stop !)) (look ! 19 refl)) (and_then ! (load ! (from ! (stop !)) (look ! 15 refl)) (no_more !))) (λ u.
          use1 𝓛 (later (some (λ (r : Bool). (‵ ftrue ⊛ ‵ (bool.own_val r (u ∷ []))) ⊛ raw (ensured 𝓛 want_ended (want_clauses 𝓤) tt (t.acc, (elem, tt)) tt r)))) (id⊢ 𝓤 _) $ await ! tt $ pick ! (λ r.
          split ! $ move ! (1 ∷ []) $ use1 𝓛 (raw (fact 𝓤 (r ≡ wants t.acc elem))) (said_w t elem ve ge r) $ heard ! (r ≡ wants t.acc elem) (λ e. split ! $ drop ! $
          peeks ! bool (Is bool) (shows 𝓛 bool) r (u ∷ []) (λ is. drop ! $
          land ! (from ! (stop !)) (init ! 2 refl ((bool_Lawful 𝓛).typed r (u ∷ []) is).0) $
          rewrite ! 2 (λ (v : Val). ‵ (fat full_share ty_bool l₁₁ 0 v)) (head_is u (vbool r) is) refl $
          tested t less ve ge r e))))))
        where
          elem : TR.D
          elem = get_or ys t.i d

          ve : Val
          ve = LL.val TR LR (get_or ys t.i d)

      -- the turn that leaves the loop, and the rest of the body
      ends : (t : Turn) → t.i ≡ n → Sq 𝓛 (At t) (runs C Λ En turn (any_q (Turned t)))
      unfolding after_turn
      ends t over =
          assigns ! (of_opd ! (load ! (from ! (fld ! refl (stop !))) (look_in ! 22 (sub ! 1 refl (whole !))))) (from ! (stop !)) (init ! 10 refl (tt, record { fits = gn.0 })) $
          assigns ! (bin ! (load ! (from ! (stop !)) (look ! 16 refl)) (load ! (from ! (stop !)) (look ! 10 refl)) tt) (from ! (stop !)) (init ! 8 refl (tt, tt)) $
          rewrite ! 8 (λ (y : Bool). ‵ (fat full_share ty_bool l₈ 0 (vbool y))) (le-ltb t.i n (omega arith)) refl $
          leaves_loop ! (load ! (from ! (stop !)) (look ! 8 refl)) $ exec ! C Λ En after (at_ret En Post) $
          assigns ! (of_opd ! (load ! (from ! (stop !)) (look ! 18 refl))) (from ! (stop !)) (init ! 24 refl (typed t.acc t.v t.is)) $
          returns ! (look ! 24 refl) $ forget ! 8 refl $ forget ! 10 refl $ forget ! 16 refl $ forget ! 18 refl $ forget ! 20 refl $ forget ! 22 refl $ forget ! 24 refl $
          move ! (24 ∷ 25 ∷ []) $ free1 ! $ move ! (22 ∷ 23 ∷ []) $ free1 ! $ move ! (20 ∷ 21 ∷ []) $ free1 ! $ move ! (18 ∷ 19 ∷ []) $ free1 ! $ move ! (16 ∷ 17 ∷ []) $ free1 ! $ move ! (14 ∷ 15 ∷ []) $ free1 ! $ move ! (12 ∷ 13 ∷ []) $ free1 ! $ move ! (10 ∷ 11 ∷ []) $ free1 ! $
          move ! (8 ∷ 9 ∷ []) $ free1 ! $ move ! (6 ∷ 7 ∷ []) $ free1 ! $ move ! (4 ∷ 5 ∷ []) $ free1 ! $ move ! (2 ∷ 3 ∷ []) $ free1 ! $ free0 ! $ by ! (exits t.acc t.v t.is whole_fold)
        where
          past : length ys ≤ t.i
          past = omega arith

          whole_fold : t.acc ≡ foldl step a ys
          whole_fold = ap (foldl step t.acc) (sym (drop_of_length-le ys past)) ∙ t.inv

      turns : (t : Turn) → Sq 𝓛 (At t) (runs C Λ En turn (any_q (Turned t)))
      turns t = by_case (eq-or-lt_of_le t.below)
        where
          by_case : (t.i ≡ n) ⊎ (t.i < n) → Sq 𝓛 (At t) (runs C Λ En turn (any_q (Turned t)))
          by_case (inl over) = ends t over
          by_case (inr less) = more t less

      looped : (t : Turn) → Sq 𝓛 (At t) (runs C Λ En rest (at_ret En Post))
      looped t = first ! $ blocks ! $ loops ! 𝓣 Nearer Nearer-wf At turns t

  module _ {M : Type 1} {𝓤 : Ura M} (𝓛 : Logic 𝓤) (κ : Lft) (q : Share) (b o : ℕ) (ys : List TR.D) (gn : Room R (length ys)) (a : TS.D) (va : Val) (ga : Is S a (va ∷ [])) (Post : Val → SProp 𝓤)
      (exits : (r : TS.D) (v : Val) → Is S r (v ∷ []) → r ≡ cond (off a) a (foldl step a ys) → ent 𝓤 (⋆ 𝓛 (Lent 𝓤 κ q b o ys)) (Post v)) where
    open 𝓛 use {H, A}

    abbrev given : Bor (List TR.D) × (TS.D × Unit {0})
    given = (record { ref_ptr = (b, o); now = ys }, (a, tt))

    abbrev vals : List Val × (List Val × Unit {0})
    vals = (slice_val (b, o) (length ys) ∷ [], (va ∷ [], tt))

    typed_a : Holds (has_ty τS va) × WT va
    typed_a = ((LL.lawful TS LS 𝓛).typed a (va ∷ []) ga).0

    abbrev to_o : (Off 𝓛).Ghost
    to_o = ((tt, tt, tt, (a, tt), (va ∷ [], tt)), tt)

    asked_o : ent 𝓤 (emp 𝓤) ((Off 𝓛).pre to_o)
    asked_o = qed 𝓛 [] ∵ nothing ! $ owned ! S (Is S) (LL.makes TS PS 𝓛) a _ ga $ fjoin ! $ nothing ! $ join ! $ frame ! $ done !

    said_o : (r : Bool) → ent 𝓤 (ensured 𝓛 off_ended (off_clauses 𝓤) tt (a, tt) tt r) (fact 𝓤 (r ≡ off a))
    said_o r = ex_e 𝓤 _ (λ ws. snd∗ 𝓤 (sem 𝓛 (lasts off_ended tt (a, tt) ws)) (fact 𝓤 (r ≡ off a)))

    off_so : (r : Bool) → r ≡ off a → r ≡ true → a ≡ cond (off a) a (foldl step a ys)
    off_so r e h = ap (λ (k : Bool). cond k a (foldl step a ys)) (sym h ∙ e)

    on_so : (r : Bool) → r ≡ off a → r ≡ false → foldl step a ys ≡ cond (off a) a (foldl step a ys)
    on_so r e h = ap (λ (k : Bool). cond k a (foldl step a ys)) (sym h ∙ e)

    module _ (𝓣 : Tables 𝓤 H) (knownO : Triple 𝓤 (𝓣.C #o) (Off 𝓛)) (knownW : Triple 𝓤 (𝓣.C #w) (Want 𝓛)) (known : Triple 𝓤 (𝓣.C #g) (Step 𝓛)) where
      module _ (l₀ l₁ l₂ l₃ l₄ l₅ l₆ l₇ l₈ l₉ l₁₀ l₁₁ : ℕ) where
        abbrev Ev : Env 𝓤 H
        Ev = (τS, l₀) ∷ (slice, l₁) ∷ (τS, l₂) ∷ (τS, l₃) ∷ (word, l₄) ∷ (τR, l₅) ∷ (ty_bool, l₆) ∷ (word, l₇) ∷ (ty_bool, l₈) ∷ (ty_ptr, l₉) ∷ (τR, l₁₀) ∷ (ty_bool, l₁₁) ∷ []

        -- where the first test has been made
        abbrev Begun : Bool → List (Item 𝓤)
        Begun r = ‵ (froom ty_bool l₁₁ 0) ∷ ‵ (fdies ty_bool l₁₁) ∷ ‵ (froom τR l₁₀ 0) ∷ ‵ (fdies τR l₁₀) ∷ ‵ (froom ty_ptr l₉ 0) ∷ ‵ (fdies ty_ptr l₉) ∷ ‵ (froom ty_bool l₈ 0) ∷ ‵ (fdies ty_bool l₈)
            ∷ ‵ (froom word l₇ 0) ∷ ‵ (fdies word l₇) ∷ ‵ (fat full_share ty_bool l₆ 0 (vbool r)) ∷ ‵ (fdies ty_bool l₆) ∷ ‵ (froom τR l₅ 0) ∷ ‵ (fdies τR l₅)
            ∷ ‵ (froom word l₄ 0) ∷ ‵ (fdies word l₄) ∷ ‵ (froom τS l₃ 0) ∷ ‵ (fdies τS l₃) ∷ ‵ (fat full_share τS l₂ 0 va) ∷ ‵ (fdies τS l₂)
            ∷ ‵ (fat full_share slice l₁ 0 (slice_val (b, o) (length ys))) ∷ ‵ (fdies slice l₁) ∷ ‵ (froom τS l₀ 0) ∷ ‵ (fdies τS l₀) ∷ (‵ (flft κ q) ⊛ ‵ ftrue) ∷ ‵ (owns (ShrSlice (named 0) κ R ∷ S ∷ []) given vals) ∷ []

        begun : (r : Bool) → r ≡ off a → Sq 𝓛 (Begun r) (runs 𝓣.C 𝓣.Λ Ev (seq (condᴹ (copy (place 6 [])) outright skipᴹ) looks) (at_ret Ev Post))
        begun r e = first ! $ branches ! (load ! (from ! (stop !)) (look ! 10 refl)) yes_arm no_arm
          where
            yes_arm : Holds r → Sq 𝓛 (Begun r) (runs 𝓣.C 𝓣.Λ Ev outright (any_q (after_seq 𝓤 H (Wp 𝓤 H 𝓣.C 𝓣.Λ Ev looks (at_return 𝓤 H Ev Post)) (at_return 𝓤 H Ev Post))))
            yes_arm y =
                assigns ! (of_opd ! (load ! (from ! (stop !)) (look ! 18 refl))) (from ! (stop !)) (init ! 22 refl typed_a) $
                returns_within ! Post refl (look ! 22 refl) $ forget ! 10 refl $ forget ! 18 refl $ forget ! 20 refl $ forget ! 22 refl $
                move ! (22 ∷ 23 ∷ []) $ free1 ! $ move ! (20 ∷ 21 ∷ []) $ free1 ! $ move ! (18 ∷ 19 ∷ []) $ free1 ! $ move ! (16 ∷ 17 ∷ []) $ free1 ! $ move ! (14 ∷ 15 ∷ []) $ free1 ! $ move ! (12 ∷ 13 ∷ []) $ free1 ! $ move ! (10 ∷ 11 ∷ []) $ free1 ! $ move ! (8 ∷ 9 ∷ []) $ free1 ! $ move ! (6 ∷ 7 ∷ []) $ free1 ! $ move ! (4 ∷ 5 ∷ []) $ free1 ! $ move ! (2 ∷ 3 ∷ []) $ free1 ! $ move ! (0 ∷ 1 ∷ []) $ free1 ! $ free0 ! $
                move ! (1 ∷ []) $ fsplit ! $ fsplit ! $ move ! (3 ∷ []) $ split ! $ keep ! (3 ∷ 0 ∷ 2 ∷ []) $ by ! (exits a va ga (off_so r e (so_true r y)))

            no_arm : Holds (not r) → Sq 𝓛 (Begun r) (runs 𝓣.C 𝓣.Λ Ev skipᴹ (any_q (after_seq 𝓤 H (Wp 𝓤 H 𝓣.C 𝓣.Λ Ev looks (at_return 𝓤 H Ev Post)) (at_return 𝓤 H Ev Post))))
            no_arm y =
                skips ! $ exec ! 𝓣.C 𝓣.Λ Ev looks (at_ret Ev Post) $ forget ! 10 refl $
                assigns ! (of_opd ! (load ! (from ! (stop !)) (look ! 18 refl))) (from ! (stop !)) (init ! 16 refl typed_a) $
                assigns ! (of_opd ! (lit ! tt)) (from ! (stop !)) (init ! 14 refl (tt, record { fits = lit< tt })) $
                move ! (25 ∷ []) $ fsplit ! $ fsplit ! $ move ! (27 ∷ []) $ split ! $
                keep ! (3 ∷ 0 ∷ 5 ∷ 6 ∷ 7 ∷ 8 ∷ 9 ∷ 10 ∷ 11 ∷ 12 ∷ 13 ∷ 14 ∷ 15 ∷ 16 ∷ 17 ∷ 18 ∷ 19 ∷ 20 ∷ 21 ∷ 22 ∷ 23 ∷ 24 ∷ 25 ∷ 26 ∷ 27 ∷ 28 ∷ 2 ∷ []) $
                looped 𝓛 κ q b o ys gn a va ga Post (λ z v is f. exits z v is (f ∙ on_so r e (so_false r y))) 𝓣 knownW known l₀ l₁ l₂ l₃ l₄ l₅ l₆ l₇ l₈ l₉ l₁₀ l₁₁
                (record { i = 0; acc = a; v = va; below = zero-le; is = ga; inv = refl })

      walk : ent 𝓤 (sep 𝓤 (sep 𝓤 (A.lft κ q) (sem 𝓛 ftrue)) (sem 𝓛 (owns (ShrSlice (named 0) κ R ∷ S ∷ []) given vals))) (WpFn 𝓤 H 𝓣.C 𝓣.Λ function (slice_val (b, o) (length ys) ∷ va ∷ []) Post)
      walk =
          qed 𝓛 ((‵ (flft κ q) ⊛ ‵ ftrue) ∷ ‵ (owns (ShrSlice (named 0) κ R ∷ S ∷ []) given vals) ∷ []) ∵ enter ! 𝓣.C 𝓣.Λ function (slice_val (b, o) (length ys) ∷ va ∷ []) _ $
          alloc1 ! (λ l₀. alloc1 ! (λ l₁. alloc1 ! (λ l₂. alloc1 ! (λ l₃. alloc1 ! (λ l₄. alloc1 ! (λ l₅. alloc1 ! (λ l₆. alloc1 ! (λ l₇. alloc1 ! (λ l₈. alloc1 ! (λ l₉. alloc1 ! (λ l₁₀. alloc1 ! (λ l₁₁. alloc0 ! $ params1 ! $
          pass1 ! (init ! 20 refl (tt, (tt, (record { fits = gn.0 }, tt)))) $ pass1 ! (init ! 18 refl typed_a) $ pass0 ! $
          nothing ! $ use1 𝓛 (raw ((Off 𝓛).pre to_o)) asked_o $
          calls_at ! (fm_of 𝓤 H 𝓛.laws 𝓣) (Off 𝓛) knownO to_o (and_then ! (load ! (from ! (stop !)) (look ! 19 refl)) (no_more !)) (λ u.
          use1 𝓛 (later (some (λ (r : Bool). (‵ ftrue ⊛ ‵ (bool.own_val r (u ∷ []))) ⊛ raw (ensured 𝓛 off_ended (off_clauses 𝓤) tt (a, tt) tt r)))) (id⊢ 𝓤 _) $ await ! tt $ pick ! (λ r.
          split ! $ move ! (1 ∷ []) $ use1 𝓛 (raw (fact 𝓤 (r ≡ off a))) (said_o r) $ heard ! (r ≡ off a) (λ e. split ! $ drop ! $
          peeks ! bool (Is bool) (shows 𝓛 bool) r (u ∷ []) (λ is. drop ! $
          land ! (from ! (stop !)) (init ! 10 refl ((bool_Lawful 𝓛).typed r (u ∷ []) is).0) $
          rewrite ! 10 (λ (v : Val). ‵ (fat full_share ty_bool l₆ 0 v)) (head_is u (vbool r) is) refl $
          begun l₀ l₁ l₂ l₃ l₄ l₅ l₆ l₇ l₈ l₉ l₁₀ l₁₁ r e))))))))))))))))

  -- the contract of the scan: it gives what it is passed where that is off, and else the fold
  abbrev scan_sig : Signature
  scan_sig = record { lifetimes = 1; outlives = []; params = shr_slice_of (0 ∷ []) tt (plain (λ κs. R)) ∷ plain (λ κs. S) ∷ []; result = plain (λ κs. S) }

  abbrev scan_ended : Ended
  scan_ended = record { signature = scan_sig; kept = (yes, (yes, tt)) }

  abbrev scan_clauses : {M : Type 1} (𝓤 : Ura M) → Clauses 𝓤 scan_ended
  scan_clauses 𝓤 κs a = record { ghost = Unit {0}; requires = λ _. emp 𝓤; ensures = λ _ r e. fact 𝓤 (r ≡ cond (off a.1.0) a.1.0 (foldl step a.1.0 a.0.now)) }

  abbrev Scanned : {M : Type 1} {𝓤 : Ura M} (𝓛 : Logic 𝓤) → Contract 𝓤
  Scanned {𝓤 = 𝓤} 𝓛 = triple_of 𝓛 scan_sig (closing 𝓛 scan_ended (scan_clauses 𝓤))

  -- both parameters are still owned at exit, as they were passed
  abbrev stayed : Stays scan_sig.params scan_ended.kept
  stayed = (stay_none_slice (0 ∷ []) tt (plain (λ _. R)) yes, (stay_none (λ _. S) yes, tt))

  -- what is carried is Copy, so nothing is bound for it at exit and nothing said of it
  last : (a : TS.D) → Last (S.exit yes) a
  last a = subst (λ (e : Exit TS.D). Last e a) (sym (LL.still TS CS yes)) tt

  silent : (a : TS.D) (w : Last (S.exit yes) a) → left (S.exit yes) a w ≡ ftrue
  silent a = subst (λ (e : Exit TS.D). (w : Last e a) → left e a w ≡ ftrue) (sym (LL.still TS CS yes)) (λ w. refl)

  module _ {M : Type 1} {𝓤 : Ura M} (𝓛 : Logic 𝓤) where
    -- the contract in which a walk ends
    open 𝓛 use {H}

    abbrev Ends : Contract 𝓤
    Ends = walk_of 𝓛 scan_ended stayed (scan_clauses 𝓤)

    module _ (κ : Lft) (q : Share) (b o : ℕ) (ys : List TR.D) (a : TS.D) (va : Val) (ga : Is S a (va ∷ [])) where
      abbrev to_s : Ends.Ghost
      to_s = (((κ, tt), (q, tt), tt, (record { ref_ptr = (b, o); now = ys }, (a, tt)), (slice_val (b, o) (length ys) ∷ [], (va ∷ [], tt))), tt)

      exits : (r : TS.D) (v : Val) → Is S r (v ∷ []) → r ≡ cond (off a) a (foldl step a ys) → ent 𝓤 (⋆ 𝓛 (Lent 𝓤 κ q b o ys)) (Ends.post to_s v)
      exits r v is e =
          qed 𝓛 (Lent 𝓤 κ q b o ys) ∵ move ! (2 ∷ 0 ∷ []) $ fjoin ! $ move ! (1 ∷ 0 ∷ []) $
          suffices ! _ (ends_at 𝓛 scan_ended stayed (scan_clauses 𝓤) to_s v r (tt, (last a, tt)) (tt, (tt, tt))) $ says ! e $
          nothing ! $ move ! (1 ∷ 0 ∷ []) $ join ! $ nothing ! $ owned ! S (Is S) (LL.makes TS PS 𝓛) a _ ga $ fjoin ! $ move ! (2 ∷ 0 ∷ []) $ fjoin ! $ move ! (1 ∷ 0 ∷ []) $
          frame ! $ frame ! $ owned ! S (Is S) (LL.makes TS PS 𝓛) r _ is $ done !

    module _ (𝓣 : Tables 𝓤 H) (knownO : Triple 𝓤 (𝓣.C #o) (Off 𝓛)) (knownW : Triple 𝓤 (𝓣.C #w) (Want 𝓛)) (known : Triple 𝓤 (𝓣.C #g) (Step 𝓛)) where
      abbrev runs_it : Fun 𝓤
      runs_it = WpFn 𝓤 H 𝓣.C 𝓣.Λ function

      ends_well : Triple 𝓤 runs_it Ends
      ends_well =
          walked 𝓛 scan_ended stayed (scan_clauses 𝓤) runs_it (λ κs. (shr_slice_vals, (LL.vals TS LS, tt))) (λ κs. (shr_slice_Tells (named 0) κs.0 R, (LL.tells TS LS, tt))) (λ κs qs bounds a _ are. via 𝓤 _ (fst∗ 𝓤 _ (emp 𝓤))
          (walk 𝓛 κs.0 qs.0 a.0.ref_ptr.0 a.0.ref_ptr.1 a.0.now are.0.0.1 a.1.0 (LL.val TS LS a.1.0) are.1.0
          _ (exits κs.0 qs.0 a.0.ref_ptr.0 a.0.ref_ptr.1 a.0.now a.1.0 (LL.val TS LS a.1.0) are.1.0) 𝓣 knownO knownW known))

      code_meets : Triple 𝓤 runs_it (Scanned 𝓛)
      code_meets =
          walk_Meets 𝓛 scan_ended stayed (Goes-none_slice 𝓛 1 (0 ∷ []) tt (plain (λ _. R)) yes, (Goes-none 𝓛 1 (λ _. S) yes (λ κs. silent), tt)) (scan_clauses 𝓤) runs_it (WpFn-mono 𝓤 H 𝓛.laws 𝓣 function) ends_well

  -- the routine of the name #f, whose body is the MIR above: γ says what the names of the callees mean, and each callee meets its contract
  pub meets : {M : Type 1} {𝓤 : Ura M} (𝓛 : Logic 𝓤) (𝓜 : Model 𝓤 𝓛.H) (𝓡 : Running 𝓤 𝓛.H 𝓜) (γ : Meanings) (#f : Callee) → Closed 𝓤 𝓛.H (tables 𝓤 𝓛.H 𝓜 𝓡 γ).C (tables 𝓤 𝓛.H 𝓜 𝓡 γ).Λ #f function
      → {o w g : Routine} → γ #o ≡ o → γ #w ≡ w → γ #g ≡ g → Triple 𝓤 (𝓡.run o) (Off 𝓛) → Triple 𝓤 (𝓡.run w) (Want 𝓛) → Triple 𝓤 (𝓡.run g) (Step 𝓛) → Triple 𝓤 (𝓡.run (γ #f)) (Scanned 𝓛)
  unfolding tables_of
  meets {𝓤 = 𝓤} 𝓛 𝓜 𝓡 γ #f closed {o} {w} {g} o_is w_is g_is metO metW met =
      entered 𝓤 𝓛.H (Scanned 𝓛) (tables 𝓤 𝓛.H 𝓜 𝓡 γ).C (tables 𝓤 𝓛.H 𝓜 𝓡 γ).Λ #f function closed
      (code_meets 𝓛 (tables_of 𝓤 𝓛.H 𝓜 (tables 𝓤 𝓛.H 𝓜 𝓡 γ))
      (cited 𝓤 𝓛.H (Off 𝓛) 𝓜 𝓡 γ #o o o_is metO) (cited 𝓤 𝓛.H (Want 𝓛) 𝓜 𝓡 γ #w w w_is metW) (cited 𝓤 𝓛.H (Step 𝓛) 𝓜 𝓡 γ #g g g_is met))
