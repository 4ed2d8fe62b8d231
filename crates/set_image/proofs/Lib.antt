-- counts within their limits
pub mod CountLimits
-- what no refusal says of bodies and counts
pub mod NoRefusals
