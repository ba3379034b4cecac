-- The open requests: what each is for, beside what it will be answered with.
use Rattle.std.proofs.Common.{◌≡◌, suc, List, [], ◌∷◌, ◌++◌, length, refl, ap}
use Rattle.isa.specs.Manual.{Mem}
use Rattle.pins.specs.Ports.{reads}
use Rattle.pins.specs.Settled.{Due, any_word, from_device, that_word, due}
use Rattle.first.specs.declared.state.Open.{Open}
use Rattle.first.specs.declared.state.Open.TheVariants.{Acknowledgment, Load as ForLoad}
use Rattle.pins.specs.declared.held.Reading.{Reading}
use Rattle.pins.specs.declared.held.Reading.TheVariants.{Idle, Waiting, Answered}

-- all are stores'
abbrev pub Acks : List Open → List Due → Type 0
Acks [] [] = Unit {0}
Acks [] (d ∷ ds) = ⊥
Acks (Acknowledgment ∷ ks) [] = ⊥
Acks (Acknowledgment ∷ ks) (any_word ∷ ds) = Acks ks ds
Acks (Acknowledgment ∷ ks) (from_device ∷ ds) = ⊥
Acks (Acknowledgment ∷ ks) (that_word y ∷ ds) = ⊥
Acks (ForLoad ∷ ks) ds = ⊥

-- one is the load's, to be answered with d
abbrev pub OneLoad : Due → List Open → List Due → Type 0
OneLoad d [] ds = ⊥
OneLoad d (Acknowledgment ∷ ks) [] = ⊥
OneLoad d (Acknowledgment ∷ ks) (any_word ∷ ds) = OneLoad d ks ds
OneLoad d (Acknowledgment ∷ ks) (from_device ∷ ds) = ⊥
OneLoad d (Acknowledgment ∷ ks) (that_word y ∷ ds) = ⊥
OneLoad d (ForLoad ∷ ks) [] = ⊥
OneLoad d (ForLoad ∷ ks) (e ∷ ds) = (e ≡ d) × Acks ks ds

-- a load that waits is open, and will be answered with the device's word or what memory f holds there
abbrev pub Tags : Reading → Mem → List Open → List Due → Type 0
Tags Idle f ks ds = Acks ks ds
Tags (Waiting a) f ks ds = OneLoad (due f (reads a)) ks ds
Tags (Answered a x) f ks ds = Acks ks ds

-- a store is requested
acks_store : (ks : List Open) (ds : List Due) → Acks ks ds → Acks (ks ++ (Acknowledgment ∷ [])) (ds ++ (any_word ∷ []))
acks_store [] [] h = tt
acks_store [] (d ∷ ds) h = absurd h
acks_store (Acknowledgment ∷ ks) [] h = absurd h
acks_store (Acknowledgment ∷ ks) (any_word ∷ ds) h = acks_store ks ds h
acks_store (Acknowledgment ∷ ks) (from_device ∷ ds) h = absurd h
acks_store (Acknowledgment ∷ ks) (that_word y ∷ ds) h = absurd h
acks_store (ForLoad ∷ ks) ds h = absurd h

load_store : (d : Due) (ks : List Open) (ds : List Due) → OneLoad d ks ds → OneLoad d (ks ++ (Acknowledgment ∷ [])) (ds ++ (any_word ∷ []))
load_store d [] ds h = absurd h
load_store d (Acknowledgment ∷ ks) [] h = absurd h
load_store d (Acknowledgment ∷ ks) (any_word ∷ ds) h = load_store d ks ds h
load_store d (Acknowledgment ∷ ks) (from_device ∷ ds) h = absurd h
load_store d (Acknowledgment ∷ ks) (that_word y ∷ ds) h = absurd h
load_store d (ForLoad ∷ ks) [] h = absurd h
load_store d (ForLoad ∷ ks) (e ∷ ds) (q, h) = (q, acks_store ks ds h)

pub tags_store : (l : Reading) (f : Mem) (ks : List Open) (ds : List Due) → Tags l f ks ds → Tags l f (ks ++ (Acknowledgment ∷ [])) (ds ++ (any_word ∷ []))
tags_store Idle f ks ds h = acks_store ks ds h
tags_store (Waiting a) f ks ds h = load_store (due f (reads a)) ks ds h
tags_store (Answered a x) f ks ds h = acks_store ks ds h

-- the load is requested
pub acks_load : (d : Due) (ks : List Open) (ds : List Due) → Acks ks ds → OneLoad d (ks ++ (ForLoad ∷ [])) (ds ++ (d ∷ []))
acks_load d [] [] h = (refl, tt)
acks_load d [] (e ∷ ds) h = absurd h
acks_load d (Acknowledgment ∷ ks) [] h = absurd h
acks_load d (Acknowledgment ∷ ks) (any_word ∷ ds) h = acks_load d ks ds h
acks_load d (Acknowledgment ∷ ks) (from_device ∷ ds) h = absurd h
acks_load d (Acknowledgment ∷ ks) (that_word y ∷ ds) h = absurd h
acks_load d (ForLoad ∷ ks) ds h = absurd h

-- as many as are due
acks_count : (ks : List Open) (ds : List Due) → Acks ks ds → length ks ≡ length ds
acks_count [] [] h = refl
acks_count [] (d ∷ ds) h = absurd h
acks_count (Acknowledgment ∷ ks) [] h = absurd h
acks_count (Acknowledgment ∷ ks) (any_word ∷ ds) h = ap suc (acks_count ks ds h)
acks_count (Acknowledgment ∷ ks) (from_device ∷ ds) h = absurd h
acks_count (Acknowledgment ∷ ks) (that_word y ∷ ds) h = absurd h
acks_count (ForLoad ∷ ks) ds h = absurd h

load_count : (d : Due) (ks : List Open) (ds : List Due) → OneLoad d ks ds → length ks ≡ length ds
load_count d [] ds h = absurd h
load_count d (Acknowledgment ∷ ks) [] h = absurd h
load_count d (Acknowledgment ∷ ks) (any_word ∷ ds) h = ap suc (load_count d ks ds h)
load_count d (Acknowledgment ∷ ks) (from_device ∷ ds) h = absurd h
load_count d (Acknowledgment ∷ ks) (that_word y ∷ ds) h = absurd h
load_count d (ForLoad ∷ ks) [] h = absurd h
load_count d (ForLoad ∷ ks) (e ∷ ds) h = ap suc (acks_count ks ds h.1)

pub tags_count : (l : Reading) (f : Mem) (ks : List Open) (ds : List Due) → Tags l f ks ds → length ks ≡ length ds
tags_count Idle f ks ds h = acks_count ks ds h
tags_count (Waiting a) f ks ds h = load_count (due f (reads a)) ks ds h
tags_count (Answered a x) f ks ds h = acks_count ks ds h
