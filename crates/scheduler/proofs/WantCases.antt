-- What a worker's want tells of its state.
use Rattle.std.proofs.Common.{◌≡◌, ◌⊎◌, inl, inr, ℕ, List, refl, Option, Some, None}
use Rattle.scan_model.specs.declared.command.Settings.{Settings}
use Rattle.scan_model.specs.declared.command.Job.{Job}
use Rattle.scan_model.specs.Files.{Content}
use Rattle.cache_machine.specs.Rows.{Held, Claimed, Done, Row, held_at}
use Rattle.cache_machine.specs.Machine.{Worker, Idle, At, Claiming, Holding, Spent, Over}
use Rattle.cache_machine.specs.JobLooks.{path_at}
use Rattle.cache_machine.specs.Wants.{Want, Draw_wanted, Look_wanted, Read_wanted, Publish_wanted, End_wanted, Waits, Is_over, wants_held, wants_path, wants_as}

-- ## At a path

-- a worker between two looks ends, looks or waits
data Looks (rows : List Row) (path : Option (List ℕ)) (want : Want) : Type 0 where
  Ends : path ≡ None → want ≡ End_wanted → Looks rows path want
  Claims : (p : List ℕ) → path ≡ Some p → held_at rows p ≡ None → want ≡ Look_wanted → Looks rows path want
  Finds : (p : List ℕ) (content : Content (List ℕ)) → path ≡ Some p → held_at rows p ≡ Some (Done content) → want ≡ Look_wanted → Looks rows path want
  Stays : (p : List ℕ) (v : ℕ) → path ≡ Some p → held_at rows p ≡ Some (Claimed v) → want ≡ Waits → Looks rows path want

looks_held : (rows : List Row) (path : Option (List ℕ)) (want : Want) (p : List ℕ) → path ≡ Some p → (held : Option Held) → held_at rows p ≡ held → wants_held held ≡ want → Looks rows path want
looks_held rows path want p at None e h = Claims p at e (let w : Look_wanted ≡ want = h in cc)
looks_held rows path want p at (Some (Claimed v)) e h = Stays p v at e (let w : Waits ≡ want = h in cc)
looks_held rows path want p at (Some (Done content)) e h = Finds p content at e (let w : Look_wanted ≡ want = h in cc)

looks_path : (rows : List Row) (path given : Option (List ℕ)) (want : Want) → given ≡ path → wants_path rows path ≡ want → Looks rows given want
looks_path rows None given want e h = Ends e (let w : End_wanted ≡ want = h in cc)
looks_path rows (Some p) given want e h = looks_held rows given want p e (held_at rows p) refl h

-- it doesn't draw, read or publish, and isn't over
not_draw : (rows : List Row) (path : Option (List ℕ)) → Looks rows path Draw_wanted → ⊥
not_draw rows path (Ends a b) = cc
not_draw rows path (Claims p a b c) = cc
not_draw rows path (Finds p content a b c) = cc
not_draw rows path (Stays p v a b c) = cc

not_read : (rows : List Row) (path : Option (List ℕ)) → Looks rows path Read_wanted → ⊥
not_read rows path (Ends a b) = cc
not_read rows path (Claims p a b c) = cc
not_read rows path (Finds p content a b c) = cc
not_read rows path (Stays p v a b c) = cc

not_publish : (rows : List Row) (path : Option (List ℕ)) → Looks rows path Publish_wanted → ⊥
not_publish rows path (Ends a b) = cc
not_publish rows path (Claims p a b c) = cc
not_publish rows path (Finds p content a b c) = cc
not_publish rows path (Stays p v a b c) = cc

not_over : (rows : List Row) (path : Option (List ℕ)) → Looks rows path Is_over → ⊥
not_over rows path (Ends a b) = cc
not_over rows path (Claims p a b c) = cc
not_over rows path (Finds p content a b c) = cc
not_over rows path (Stays p v a b c) = cc

-- a look claims the path, or finds its row done
abbrev pub LooksAt : List Row → Option (List ℕ) → Type 0
LooksAt rows path = (p : List ℕ) × ((path ≡ Some p) × ((held_at rows p ≡ None) ⊎ ((content : Content (List ℕ)) × (held_at rows p ≡ Some (Done content)))))

looks_at : (rows : List Row) (path : Option (List ℕ)) → Looks rows path Look_wanted → LooksAt rows path
looks_at rows path (Ends a b) = cc
looks_at rows path (Claims p a b c) = (p, (a, inl b))
looks_at rows path (Finds p content a b c) = (p, (a, inr (content, b)))
looks_at rows path (Stays p v a b c) = cc

ends_at : (rows : List Row) (path : Option (List ℕ)) → Looks rows path End_wanted → path ≡ None
ends_at rows path (Ends a b) = a
ends_at rows path (Claims p a b c) = cc
ends_at rows path (Finds p content a b c) = cc
ends_at rows path (Stays p v a b c) = cc

-- another claimed the path
abbrev pub WaitsAt : List Row → Option (List ℕ) → Type 0
WaitsAt rows path = (p : List ℕ) × ((path ≡ Some p) × ((v : ℕ) × (held_at rows p ≡ Some (Claimed v))))

waits_at : (rows : List Row) (path : Option (List ℕ)) → Looks rows path Waits → WaitsAt rows path
waits_at rows path (Ends a b) = cc
waits_at rows path (Claims p a b c) = cc
waits_at rows path (Finds p content a b c) = cc
waits_at rows path (Stays p v a b c) = (p, (a, (v, b)))

-- ## In any state

module _ (jobs : List Job) (settings : Settings) (rows : List Row) where
  abbrev at : ℕ → ℕ → Option (List ℕ)
  at n k = path_at jobs settings rows n k

  abbrev looks : (n k : ℕ) (want : Want) → wants_as jobs settings rows (At n k) ≡ want → Looks rows (at n k) want
  looks n k want h = looks_path rows (at n k) (at n k) want refl h

  pub draw_is : (s : Worker) → wants_as jobs settings rows s ≡ Draw_wanted → s ≡ Idle
  draw_is Idle h = refl
  draw_is (At n k) h = absurd (not_draw rows (at n k) (looks n k Draw_wanted h))
  draw_is (Claiming n k) h = cc
  draw_is (Holding n k content) h = cc
  draw_is (Spent n) h = cc
  draw_is Over h = cc

  pub look_is : (s : Worker) → wants_as jobs settings rows s ≡ Look_wanted → (n : ℕ) × ((k : ℕ) × ((s ≡ At n k) × LooksAt rows (at n k)))
  look_is Idle h = cc
  look_is (At n k) h = (n, (k, (refl, looks_at rows (at n k) (looks n k Look_wanted h))))
  look_is (Claiming n k) h = cc
  look_is (Holding n k content) h = cc
  look_is (Spent n) h = cc
  look_is Over h = cc

  pub read_is : (s : Worker) → wants_as jobs settings rows s ≡ Read_wanted → (n : ℕ) × ((k : ℕ) × (s ≡ Claiming n k))
  read_is Idle h = cc
  read_is (At n k) h = absurd (not_read rows (at n k) (looks n k Read_wanted h))
  read_is (Claiming n k) h = (n, (k, refl))
  read_is (Holding n k content) h = cc
  read_is (Spent n) h = cc
  read_is Over h = cc

  pub publish_is : (s : Worker) → wants_as jobs settings rows s ≡ Publish_wanted → (n : ℕ) × ((k : ℕ) × ((content : Content (List ℕ)) × (s ≡ Holding n k content)))
  publish_is Idle h = cc
  publish_is (At n k) h = absurd (not_publish rows (at n k) (looks n k Publish_wanted h))
  publish_is (Claiming n k) h = cc
  publish_is (Holding n k content) h = (n, (k, (content, refl)))
  publish_is (Spent n) h = cc
  publish_is Over h = cc

  pub end_is : (s : Worker) → wants_as jobs settings rows s ≡ End_wanted → ((n : ℕ) × ((k : ℕ) × ((s ≡ At n k) × (at n k ≡ None)))) ⊎ ((n : ℕ) × (s ≡ Spent n))
  end_is Idle h = cc
  end_is (At n k) h = inl (n, (k, (refl, ends_at rows (at n k) (looks n k End_wanted h))))
  end_is (Claiming n k) h = cc
  end_is (Holding n k content) h = cc
  end_is (Spent n) h = inr (n, refl)
  end_is Over h = cc

  pub waits_is : (s : Worker) → wants_as jobs settings rows s ≡ Waits → (n : ℕ) × ((k : ℕ) × ((s ≡ At n k) × WaitsAt rows (at n k)))
  waits_is Idle h = cc
  waits_is (At n k) h = (n, (k, (refl, waits_at rows (at n k) (looks n k Waits h))))
  waits_is (Claiming n k) h = cc
  waits_is (Holding n k content) h = cc
  waits_is (Spent n) h = cc
  waits_is Over h = cc

  pub over_is : (s : Worker) → wants_as jobs settings rows s ≡ Is_over → s ≡ Over
  over_is Idle h = cc
  over_is (At n k) h = absurd (not_over rows (at n k) (looks n k Is_over h))
  over_is (Claiming n k) h = cc
  over_is (Holding n k content) h = cc
  over_is (Spent n) h = cc
  over_is Over h = refl
