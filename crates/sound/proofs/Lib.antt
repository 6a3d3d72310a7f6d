-- No accepted routine ever traps, and none tells: what rests on specs/Effects.antt, up to the promise.
pub mod EffectLaws  -- each typed item does one of the four
pub mod OneRun  -- one run: each item has what it needs, and words outside blocks stay
pub mod HiddenStep  -- a step at a hidden pc level
pub mod Together  -- two runs that do the same item
pub mod TwoRuns  -- two runs that agree at one place agree where both have halted
pub mod Starts  -- the same of runs from passing starts
pub mod Sound  -- the promise over any order of levels
pub mod Served  -- a desk call that refuses nothing
pub mod Promise  -- the promise of the desk call: read this first
pub mod K1  -- K1 is an instance
