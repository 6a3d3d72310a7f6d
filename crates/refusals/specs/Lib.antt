-- 01's table of refusals. To believe a number, read Refusals.
pub mod Refusals  -- the number of each refusal; a verdict as a number and a place, and as the code answers it
pub mod RefusalLaws  -- two refusals with one number are equal, and so are two answers with one number and place
