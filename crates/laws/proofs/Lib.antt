-- `Cases`: tests taken apart. `Numbers`: products and growth. `Search`: what bounded search finds. `Fill`: lists filled from the front.
-- `Rises`: a computed test over a whole list, and its rule at each place. `Signed`: signed numbers by their magnitudes.
pub mod Cases
pub mod Numbers
pub mod Search
pub mod Fill
pub mod Rises
pub mod Signed
